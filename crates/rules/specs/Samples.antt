-- The sample of 01 and its changes P1 to P12. Assumes nothing.
use Rattle.std.specs.Prelude.{ℕ, Bool, true, false, ◌&&◌, List, [], ◌∷◌, ◌++◌, map, eqb, length, drop, replicate}
use Prim.Native.Char.{code}
use Prim.Native.String.{String, [] as []ˢ, ◌∷◌ as ◌∷ˢ◌, ◌++◌ as ◌++ˢ◌}
use Rattle.rules.specs.Lists.{same_numbers}
use Rattle.rules.specs.Text.{at, rows}
use Rattle.rules.specs.Eval.{label, open_object, close_object, open_list, close_list, null}
use Rattle.rules.specs.Answer.{Texts, outcome, answered, buffer_after}
use Rattle.rules.specs.declared.Outcome.{Outcome}

-- "Below, spaces show tabs and `/` line ends."
abbrev pub typed : ℕ → ℕ
typed c = elim (eqb c 32) [ true ↦ 9 | false ↦ elim (eqb c 47) [ true ↦ 10 | false ↦ c ] ]

abbrev pub text : String → List ℕ
text []ˢ = []
text (c ∷ˢ s) = typed (code c) ∷ text s

abbrev pub schema : String
schema = "S 0 999/O/O/O/I/F 4 1/F 0 0/F 0 1/F 0 0/H 1 0/H 2 1/H 2 2/H 3 1/H 3 3/H 4 1/M 4 2/M 4 3/Q 1/"

abbrev pub graph : String
graph = "N 1/N 2/N 3/E 0 0 1 0/E 0 0 2 0/P 1 1 0 0 17/P 1 2 1 0 5 6/P 2 1 0 0 18/"

abbrev pub query : String
query = "F 0 0 0 0/F 1 9 1 0/T 1 2/F 2 2 2 0/T 1 3/F 2 3 3 0/"

-- "then one token a line: L label, V value, N null, brackets as they are"
abbrev pub token_by : ℕ → ℕ → ℕ
token_by letter n =
    elim (eqb letter 86) [
      | true ↦ n
      | false ↦ elim (eqb letter 76) [
        | true ↦ label n
        | false ↦ elim (eqb letter 123) [
          | true ↦ open_object
          | false ↦ elim (eqb letter 125) [
            | true ↦ close_object
            | false ↦ elim (eqb letter 91) [ true ↦ open_list | false ↦ elim (eqb letter 93) [ true ↦ close_list | false ↦ null ] ]
          ]
        ]
      ]
    ]

abbrev pub tokens : String → List ℕ
tokens s = map (λ r. token_by r.letter (at r 0)) (rows (text s))

-- A case: the graph, the query, the room, the outcome, and the tokens that the response buffer then has in front.
pub record Case : Type 0 where
  pub graph : String
  pub query : String
  pub room : ℕ
  pub expected : Outcome
  pub response : String

abbrev pub case : String → String → ℕ → Outcome → String → Case
case g q n o r = record { graph = g; query = q; room = n; expected = o; response = r }

abbrev pub same : Outcome → Outcome → Bool
same a b =
    eqb a.number b.number && (eqb a.place b.place && (eqb a.size b.size && eqb a.visits b.visits))

abbrev pub texts_of : Case → Texts
texts_of c = record { schema = text schema; graph = text c.graph; query = text c.query }

-- The call on a buffer of 32 sevens: number, place, size and visits, and the whole buffer afterwards.
abbrev pub buffer : List ℕ
buffer = replicate 32 7

abbrev pub holds : Case → Bool
holds c =
    same (answered false (texts_of c) c.room buffer) c.expected
    && same_numbers (buffer_after false (texts_of c) c.room buffer) (tokens c.response ++ drop (length (tokens c.response)) buffer)

-- the output of 01's sample behind its head, and P8's, P10's and P11's, worked out by hand
abbrev pub whole : String
whole = "L 0/[/{/L 9/V 17/L 2/[/V 5/V 6/]/}/{/L 9/V 18/L 3/N/}/]/"

abbrev pub cases : List Case
cases =
    -- P1 the sample: 18 tokens, 9 visits. P2 room 18 accepted. P3 room 17: 50, size 18, visits 9.
    case graph query 16384 (outcome 0 0 18 9) whole
    ∷ case graph query 18 (outcome 0 0 18 9) whole
    ∷ case graph query 17 (outcome 50 0 18 9) ""
    -- P4 room 0: accepted, 0 tokens, 1 visit
    ∷ case graph "T 0 4/F 1 1 1 0/" 0 (outcome 0 0 0 1) ""
    -- P5: 34, line 1. P6: 34, line 1. P7 empty query: 32, place 0.
    ∷ case graph "F 0 0 0 0/" 16384 (outcome 34 1 0 0) ""
    ∷ case graph "F 0 1 1 0/" 16384 (outcome 34 1 0 0) ""
    ∷ case graph "" 16384 (outcome 32 0 0 0) ""
    -- P8 query line 1, then line 2 twice: 15 tokens, 5 visits
    ∷ case graph "F 0 0 0 0/F 1 9 1 0/F 1 9 1 0/" 16384 (outcome 0 0 15 5) "L 0/[/{/L 9/V 17/L 9/V 17/}/{/L 9/V 18/L 9/V 18/}/]/"
    -- P9 both `E` lines gone, query lines 1 and 2: 3 tokens, 1 visit
    ∷ case "N 1/N 2/N 3/P 1 1 0 0 17/P 1 2 1 0 5 6/P 2 1 0 0 18/" "F 0 0 0 0/F 1 9 1 0/" 16384 (outcome 0 0 3 1) "L 0/[/]/"
    -- P10 graph line 7 gone: 15 tokens. P11 line 7 as `P 1 2 1 0`: 16 tokens.
    ∷ case "N 1/N 2/N 3/E 0 0 1 0/E 0 0 2 0/P 1 1 0 0 17/P 2 1 0 0 18/" query 16384 (outcome 0 0 15 9) "L 0/[/{/L 9/V 17/L 2/N/}/{/L 9/V 18/L 3/N/}/]/"
    ∷ case "N 1/N 2/N 3/E 0 0 1 0/E 0 0 2 0/P 1 1 0 0 17/P 1 2 1 0/P 2 1 0 0 18/" query 16384 (outcome 0 0 16 9) "L 0/[/{/L 9/V 17/L 2/[/]/}/{/L 9/V 18/L 3/N/}/]/"
    -- P12 line 4 repeated as line 6: 26, line 6. Added last line `P 2 2 1 0 5`: 23, line 9.
    ∷ case "N 1/N 2/N 3/E 0 0 1 0/E 0 0 2 0/E 0 0 1 0/P 1 1 0 0 17/P 1 2 1 0 5 6/P 2 1 0 0 18/" query 16384 (outcome 26 6 0 0) ""
    ∷ case (graph ++ˢ "P 2 2 1 0 5/") query 16384 (outcome 23 9 0 0) ""
    ∷ []
