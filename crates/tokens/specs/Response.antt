-- Responses by Definition 5, as trees, and their tokens. Assumes nothing.
use Rattle.std.specs.Prelude.{◌≡◌, List, [], ◌∷◌, ◌++◌, ℕ, ◌-◌, ◌≤◌, ◌<◌, length}
use Rattle.rules.specs.Lists.{Each}
use Rattle.rules.specs.Text.{largest}
use Rattle.rules.specs.Eval.{label, open_object, close_object, open_list, close_list, null as nullToken}

-- A response is fields one after another, each with a label and a content. Definition 5: "ρ ::= ℓ : v | ℓ : [v_1 ⋯ v_n] | ℓ : {ρ} |
-- ℓ : [{ρ} ⋯ {ρ}] | ρ ⋯ ρ | ℓ : null". 02: "counting an empty one, empty objects and empty value lists as allowed", "One label may
-- stand several times in an object."
mutual
  pub data Response : Type 0 where
    done : Response
    field : ℕ → Content → Response → Response

  pub data Content : Type 0 where
    value : ℕ → Content
    null : Content
    values : List ℕ → Content
    object : Response → Content
    objects : Objects → Content

  -- the objects of a list
  pub data Objects : Type 0 where
    none : Objects
    one : Response → Objects → Objects

-- The tokens of a response, of a content, and of the objects of a list.
unfoldable mutual
  pub tokens : Response → List ℕ
  tokens done = []
  tokens (field l c r) = label l ∷ (contents c ++ tokens r)

  pub contents : Content → List ℕ
  contents (value v) = v ∷ []
  contents null = nullToken ∷ []
  contents (values vs) = open_list ∷ (vs ++ close_list ∷ [])
  contents (object r) = open_object ∷ (tokens r ++ close_object ∷ [])
  contents (objects os) = open_list ∷ (listed os ++ close_list ∷ [])

  pub listed : Objects → List ℕ
  listed none = []
  listed (one r os) = open_object ∷ (tokens r ++ close_object ∷ listed os)

-- 01: "label above 255" is refused, and 1,000,000,255 is the last token of a label.
abbrev pub largest_label : ℕ
largest_label = 255

-- Values and labels are 01's, and at most d `{` are open at once.
unfoldable mutual
  pub Within : Response → ℕ → Type 0
  Within done d = Unit
  Within (field l c r) d = (l ≤ largest_label) × WithinContent c d × Within r d

  pub WithinContent : Content → ℕ → Type 0
  WithinContent (value v) d = v ≤ largest
  WithinContent null d = Unit
  WithinContent (values vs) d = Each (λ v. v ≤ largest) vs
  WithinContent (object r) d = (0 < d) × Within r (d - 1)
  WithinContent (objects os) d = WithinObjects os d

  pub WithinObjects : Objects → ℕ → Type 0
  WithinObjects none d = Unit
  WithinObjects (one r os) d = (0 < d) × Within r (d - 1) × WithinObjects os d

-- "also for more than 16,384 tokens or more than 16 `{` open at once"
abbrev pub most_tokens : ℕ
most_tokens = 16384

abbrev pub most_open : ℕ
most_open = 16

-- R is a reading of the sequence f. `[ ]` has two, a list without values and a list without objects.
pub record Reading (f : List ℕ) (R : Response) : Type 0 where
  pub is : tokens R ≡ f
  pub within : Within R most_open
  pub few : length f ≤ most_tokens

-- The sequence f is a response.
abbrev pub IsResponse : List ℕ → Type 0
IsResponse f = (R : Response) × Reading f R
