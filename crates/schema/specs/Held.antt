-- A schema area that can be read: long enough, its counts within the maxima, and the rows of H, G and M linked by the buckets of their first
-- numbers. Assumes nothing.
use Rattle.std.specs.Prelude.{ℕ, ◌≤◌, List, length}
use Rattle.std.proofs.Props.{props}
use Rattle.tables.specs.Read.{cell}
use Rattle.index.specs.Index.{Chained}
use Rattle.index.specs.Buckets.{bucket_at, has_from, takes_from, members_from, links_end}

-- The rows of a table from `base` on, as many as stand at `head`, are linked by their buckets from `at` on. A sealed name, so that a search
-- through what is known of an area does not enter the links.
unfoldable pub Bucketed : List ℕ → ℕ → ℕ → ℕ → Type 0
Bucketed a head base at = Chained (bucket_at a base) (cell a head) a at

-- That they are is a fact, and no choice.
pub bucketed_prop : (a : List ℕ) (head base at : ℕ) → IsProp (Bucketed a head base at)
unfolding Bucketed
bucketed_prop a head base at = hlevel props

pub record SchemaHeld (a : List ℕ) : Type 0 where
  pub long : links_end ≤ length a
  pub types : cell a 0 ≤ 64
  pub fields : cell a 1 ≤ 128
  pub args : cell a 2 ≤ 64
  pub has : cell a 3 ≤ 1024
  pub takes : cell a 4 ≤ 1024
  pub members : cell a 5 ≤ 1024
  pub has_links : Bucketed a 3 776 has_from
  pub takes_links : Bucketed a 4 3848 takes_from
  pub member_links : Bucketed a 5 6920 members_from
