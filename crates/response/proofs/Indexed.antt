-- For accepted texts the World through the index that was laid is the World of the texts, and so are its answers. Assumes nothing.
use mathlib.Core.Path.{◌≡◌, ap, ◌∙◌}
use lib.ListN.{take}
use Rattle.rules.specs.World.{World}
use Rattle.rules.specs.Eval.{eval}
use Rattle.rules.specs.Sizing.{visits, start, total, cap}
use Rattle.rules.specs.Answer.{Texts, world_of, tree_of, root_of, response, visits_in, told}
use Rattle.checks.specs.Verdict.{Verdict, accepted}
use Rattle.judge.specs.Texts.{Lent, Judged}
use Rattle.world.specs.World.{WorldHeld}
use Rattle.world.specs.ByIndex.{world_by}
use Rattle.world.proofs.ByIndex.{same-world}
use Rattle.response.proofs.Ready.{world_in, readable}

-- the World that the areas hold, through their index
abbrev pub world_through : Lent → World
world_through w = world_by w.schema w.nodes w.properties (take 8200 w.values) w.index

through : (w : Lent) → WorldHeld w.schema w.nodes w.properties (take 8200 w.values) w.index → world_through w ≡ world_in w
through w h =
    same-world w.schema w.nodes w.properties (take 8200 w.values) w.index h.graph.edges.links h.own

module _ (x : Texts) (before after : Lent) (v : Verdict) (j : Judged x before after v) (z : v ≡ accepted) where
  pub indexed-world : world_through after ≡ world_of x
  indexed-world = let r = readable x before after v j z in through after r.held ∙ r.world

  -- the response, the visits in their order, and what is told of both
  pub indexed-response : eval (world_through after) (tree_of x) (root_of x) ≡ response x
  indexed-response = ap (λ (w : World). eval w (tree_of x) (root_of x)) indexed-world

  pub indexed-visits : visits (world_through after) (tree_of x) (start (world_through after) (root_of x)) ≡ visits_in x
  indexed-visits = ap (λ (w : World). visits w (tree_of x) (start w (root_of x))) indexed-world

  pub indexed-size : cap (total (world_through after) (visits (world_through after) (tree_of x) (start (world_through after) (root_of x)))) ≡ (told x).size
  indexed-size = ap (λ (w : World). cap (total w (visits w (tree_of x) (start w (root_of x))))) indexed-world
