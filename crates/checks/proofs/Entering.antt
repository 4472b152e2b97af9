-- The query area holds the query's rows, each as its letter and its first twelve numbers, and the checks and the tree say the same of
-- rows so shown. Assumes nothing.
use Prim.Native.Nat.{ℕ, suc, ◌+◌, ◌*◌, ◌≤◌, ◌<◌}
use native.Mathlib.Omega.{arith}
use mathlib.Core.Path.{◌≡◌, refl, ap, ap₂, ◌∙◌}
use mathlib.Core.Bool.{Bool, true, false, cond, ◌&&◌, ◌||◌, not}
use mathlib.Core.List.{List, [], ◌∷◌, map}
use Rattle.std.specs.Prelude.{None, Some}
use lib.Dec.{eqb, leb, ltb}
use lib.ListN.{length, get_or, take, drop, replicate, length-drop, length-replicate}
use Rattle.rules.specs.Lists.{count_up}
use Rattle.rules.specs.Text.{Row, row, rows, no_row, at, pairs, pairs_of, field_no, type_no, F, T}
use Rattle.rules.specs.Search.{◌#◌, test_each, Test, Tests, given, worse, fault_of, fault, Check, spot, first_from, first_line}
use Rattle.rules.specs.Schema.{Schema, is, nth, declared_type, declared_field, declared_arg, field_type, has_field, takes_arg, is_scalar, owns_fields}
use Rattle.rules.specs.Query.{depth, has_child, deepest, steps, hands_down, context, check33, check34}
use Rattle.rules.specs.Forms.{query_forms, text_form}
use Rattle.rules.specs.Tree.{field, on, asks_of, entries_from}
use Rattle.rules.specs.declared.TypeNo.{TypeNo}
use Rattle.rules.proofs.Clean.{Each}
use Rattle.rules.proofs.Sound.{rows-each}
use Rattle.text.specs.Line.{padded}
use Rattle.text.proofs.Rows.{padded-at}
use Rattle.tables.specs.Layout.{laid, belongs, table, counted, query_area}
use Rattle.tables.specs.Read.{cell, wide_at}
use Rattle.tables.proofs.Laid.{laid-length, laid_in, laid-drop, laid_part}
use Rattle.tables.proofs.Wide.{StandsWide, padded-pairs, wide-table_length, wide_tag, wide-number, wide_numbers}
use Rattle.tables.proofs.Labelling.{each_at}
use Rattle.query.specs.Entries.{QueryHeld, entry_at, entries_from as entriesOf, entries_at}
use Rattle.query.specs.Faults.{check_for, entry_number as number_of}
use Rattle.query.specs.declared.EntryCheck.{EntryCheck}
use Rattle.checks.proofs.Fitting.{those-all, query-row}

-- a row as its entry holds it: its letter, and its first twelve numbers, zeros after them
abbrev pub shown : Row → Row
shown r = record { letter = r.letter; numbers = padded 12 r.numbers }

-- ---- what the query area holds

-- each row of a list by its place
map-places : (u : ℕ → Row) (v : Row → Row) (i : ℕ) (xs : List Row) → ((j : ℕ) → j < length xs → u (i + j) ≡ v (get_or xs j no_row))
    → map u (count_up i (length xs)) ≡ map v xs
map-places u v i [] h = refl
map-places u v i (x ∷ xs) h =
    ap₂ (λ (y : Row) (ys : List Row). y ∷ ys) (ap u (omega arith) ∙ h 0 (omega arith))
    (map-places u v (suc i) xs (λ j k. ap u (omega arith) ∙ h (suc j) (omega arith)))

-- every row of a query belongs to its table
entries-counted : (rs : List Row) → counted 10 rs ≡ length rs
unfolding counted belongs
entries-counted rs = ap length (those-all rs)

entry_row : (rs : List Row) (j : ℕ) → nth (belongs 10) rs j ≡ get_or rs j no_row
unfolding belongs
entry_row rs j = ap (λ (l : List Row). get_or l j no_row) (those-all rs)

abbrev entries_laid : ℕ → List Row → List ℕ
entries_laid n rs = laid 8 (table 10 0 rs) (replicate n 0)

module _ (n : ℕ) (rs : List Row) (room : 3592 ≤ n) (few : length rs ≤ 256) where
  pub query-length : length (query_area n rs) ≡ n
  unfolding query_area
  query-length =
      let z : length {A = ℕ} (replicate n 0) ≡ n = length-replicate n 0 in
      let l : length (entries_laid n rs) ≡ n =
      laid-length 8 (table 10 0 rs) (replicate n 0) (omega (arith, wide-table_length 10 rs refl, entries-counted rs)) ∙ z in
      laid-length 0 (counted 10 rs ∷ []) (entries_laid n rs) (omega arith) ∙ l

  query-count : cell (query_area n rs) 0 ≡ length rs
  unfolding query_area cell
  query-count = laid_in 0 (counted 10 rs ∷ []) (entries_laid n rs) 0 (omega arith) (omega arith) ∙ entries-counted rs

  entries-stand : StandsWide (query_area n rs) 10 8 rs
  unfolding query_area
  entries-stand =
      let z : length {A = ℕ} (replicate n 0) ≡ n = length-replicate n 0 in
      record {
        large = refl;
        same = λ i c h. ap (take c) (laid-drop 0 (counted 10 rs ∷ []) (entries_laid n rs) (8 + i) (omega arith) (omega arith))
            ∙ laid_part 8 (table 10 0 rs) (replicate n 0) i c (omega arith) (omega (arith, wide-table_length 10 rs refl));
      }

  entry_shown : (j : ℕ) → j < length rs → entry_at (query_area n rs) j ≡ shown (get_or rs j no_row)
  unfolding entry_at
  entry_shown j h =
      let k : j < counted 10 rs = omega (arith, entries-counted rs) in
      let held : entry_at (query_area n rs) j ≡ shown (nth (belongs 10) rs j) =
      λ i. record {
        letter = wide_tag (query_area n rs) 10 8 rs entries-stand j k i;
        numbers = wide_numbers (query_area n rs) 10 8 rs entries-stand j k i;
      } in
      held ∙ ap shown (entry_row rs j)

  -- number i of entry j
  entry_number : (j : ℕ) → j < length rs → (i : ℕ) → i < 12 → wide_at (query_area n rs) 8 j (suc (suc i)) ≡ at (get_or rs j no_row) i
  entry_number j h i b =
      let k : j < counted 10 rs = omega (arith, entries-counted rs) in
      wide-number (query_area n rs) 10 8 rs entries-stand j k i b ∙ ap (λ (r : Row). at r i) (entry_row rs j)

  pub query-entries : entries_at (query_area n rs) ≡ map shown rs
  unfolding entries_at entriesOf
  query-entries =
      ap (λ (c : ℕ). map (entry_at (query_area n rs)) (count_up 0 c)) query-count
      ∙ map-places (entry_at (query_area n rs)) shown 0 rs (λ j h. ap (entry_at (query_area n rs)) (omega arith) ∙ entry_shown j h)

  pub query-held : Each (λ r. depth r ≤ 15) rs → Each (λ r. at r 3 ≤ 4) rs → QueryHeld (query_area n rs)
  query-held depths pairs =
      record {
        long = omega (arith, query-length);
        entries = omega (arith, query-count);
        depths = λ k h. let b : k < length rs = omega (arith, query-count) in
            omega (arith, entry_number k b 0 (omega arith), each_at (λ r. depth r ≤ 15) rs no_row depths k b);
        pairs = λ k h. let b : k < length rs = omega (arith, query-count) in
            omega (arith, entry_number k b 3 (omega arith), each_at (λ r. at r 3 ≤ 4) rs no_row pairs k b);
      }

-- ---- rows that keep the query's form

-- A row of the query has at most four pairs, and a field has all that it names.
pub record QueryFormed (r : Row) : Type 0 where
  pub few : at r 3 ≤ 4
  pub long : is F r ≡ true → 4 + 2 * at r 3 ≤ length r.numbers

pub query-formed : (s : List ℕ) → text_form query_forms s ≡ None → Each QueryFormed (rows s)
query-formed s h =
    rows-each query_forms QueryFormed
    (λ l k. let q = query-row (row l) k.formed in record { few = q.0; long = q.1 }) s h

-- ---- what a row shown keeps

-- each of its first four numbers
shown-at : (r : Row) (i : ℕ) → i ≤ 3 → at (shown r) i ≡ at r i
shown-at r i h = padded-at 12 r.numbers i (omega arith)

-- so what stands at 0, 1 and 2
abbrev kept0 : (r : Row) → at (shown r) 0 ≡ at r 0
kept0 r = shown-at r 0 (omega arith)

abbrev kept1 : (r : Row) → at (shown r) 1 ≡ at r 1
kept1 r = shown-at r 1 (omega arith)

abbrev kept2 : (r : Row) → at (shown r) 2 ≡ at r 2
kept2 r = shown-at r 2 (omega arith)

drop-padded : (ns : List ℕ) → drop 4 (padded 12 ns) ≡ padded 8 (drop 4 ns)
unfolding padded
drop-padded [] = refl
drop-padded (a ∷ []) = refl
drop-padded (a ∷ b ∷ []) = refl
drop-padded (a ∷ b ∷ c ∷ []) = refl
drop-padded (a ∷ b ∷ c ∷ d ∷ ns) = refl

-- and the pairs of a field
shown-pairs : (r : Row) → QueryFormed r → is F r ≡ true → pairs_of (shown r) ≡ pairs_of r
shown-pairs r f e =
    let ns = r.numbers in
    let m = at r 3 in
    let l = f.long e in
    let room : 2 * m ≤ length (drop 4 ns) = simp length-drop (omega arith) in
    ap₂ (λ (k : ℕ) (l : List ℕ). pairs k l) (shown-at r 3 (omega arith)) (drop-padded ns)
    ∙ padded-pairs m 8 (drop 4 ns) (omega (arith, f.few)) room

-- ---- what the checks ask of the rows around a row

child_same : (r : Row) (after : List Row) → has_child (shown r) (map shown after) ≡ has_child r after
child_same r [] = refl
child_same r (e ∷ after) =
    let ih = child_same r after in
    λ i. elim (leb (kept0 e i) (kept0 r i)) [ true ↦ false | false ↦ eqb (kept0 e i) (suc (kept0 r i)) || ih i ]

deepest-same : (before : List Row) → deepest (map shown before) ≡ deepest before
deepest-same [] = refl
deepest-same (e ∷ before) = ap suc (kept0 e)

hands_same : (s : Schema) (c d : TypeNo) → c ≡ d → (e : Row) → hands_down s c (shown e) ≡ hands_down s d e
hands_same s c d p e = λ i. elim (is F e) [ true ↦ field_type s (p i) (field_no (kept2 e i)) | false ↦ type_no (kept1 e i) ]

context-same : (s : Schema) (before : List Row) (d : ℕ) → context s d (map shown before) ≡ context s d before
context-same s [] d = refl
context-same s (e ∷ before) d =
    let above : context s (depth (shown e)) (map shown before) ≡ context s (depth e) before = λ i. context-same s before (kept0 e i) i in
    let hands = hands_same s (context s (depth (shown e)) (map shown before)) (context s (depth e) before) above e in
    let ih = context-same s before d in
    λ i. elim (ltb (kept0 e i) d) [ true ↦ hands i | false ↦ ih i ]

-- ---- the same faults

-- a choice whose first case counts only where the test is true
abbrev either : {A : Type 0} → Bool → A → A → A
either b x y = elim b [ true ↦ x | false ↦ y ]

either_same : {A : Type 0} (b : Bool) {x x' y y' : A} → (b ≡ true → x ≡ x') → y ≡ y' → either b x y ≡ either b x' y'
either_same true p q = p refl
either_same false p q = q

-- so the tests of one kind need be the same only where a row is of that kind
group_same : (b : Bool) {ts us : List Test} {gs hs : List Tests} → (b ≡ true → ts ≡ us) → gs ≡ hs
    → fault (given b ts ∷ gs) ≡ fault (given b us ∷ hs)
group_same b p q = ap₂ worse (either_same b (λ e. ap fault_of (p e)) refl) (ap fault q)

-- a check that finds the same fault of a row and of the row shown
abbrev Alike : Check Row → Type 0
Alike check = (before : List Row) (r : Row) (after : List Row) → QueryFormed r
    → fault (check (map shown before) (shown r) (map shown after)) ≡ fault (check before r after)

steps_alike : Alike steps
steps_alike before r after f =
    let deep = deepest-same before in
    let child = child_same r after in
    λ i. fault (given true ((2 # ltb (deep i) (kept0 r i)) ∷ []) ∷ given (is T r) ((0 # not (child i)) ∷ []) ∷ [])

check33_alike : (s : Schema) → Alike (check33 s)
check33_alike s before r after f =
    group_same (is F r)
    (λ e i. (3 # ltb 255 (kept1 r i))
    ∷ (4 # not (declared_field s (field_no (kept2 r i))))
    ∷ test_each (λ p. not (declared_arg s p.arg)) 2 6 (shown-pairs r f e i))
    (λ i. given (is T r) ((3 # not (declared_type s (type_no (kept1 r i)))) ∷ []) ∷ [])

check34_alike : (s : Schema) → Alike (check34 s)
check34_alike s before r after f =
    let c : context s (depth (shown r)) (map shown before) ≡ context s (depth r) before = λ i. context-same s before (kept0 r i) i in
    let child = child_same r after in
    group_same (is F r)
    (λ e i. (4 # not (owns_fields s (c i) && has_field s (c i) (field_no (kept2 r i))))
    ∷ (0 # (is_scalar s (field_type s (c i) (field_no (kept2 r i))) && child i))
    ∷ (0 # (not (is_scalar s (field_type s (c i) (field_no (kept2 r i)))) && not (child i)))
    ∷ test_each (λ p. not (takes_arg s (field_no (kept2 r i)) p.arg)) 2 6 (shown-pairs r f e i))
    (λ i. given (is T r) ((3 # is_scalar s (type_no (kept1 r i))) ∷ []) ∷ [])

-- ---- the same search, and the same entries

search_from : (check : Check Row) → Alike check → (before : List Row) (n : ℕ) (rs : List Row) → Each QueryFormed rs
    → first_from check (map shown before) n (map shown rs) ≡ first_from check before n rs
search_from check same before n [] f = refl
search_from check same before n (r ∷ rs) f =
    let ih = search_from check same (r ∷ before) (suc n) rs f.1 in
    let now = same before r rs f.0 in
    λ i. elim (now i) [ None ↦ ih i | Some g ↦ Some (spot n g) ]

pub query_search : (k : EntryCheck) (s : Schema) (rs : List Row) → Each QueryFormed rs
    → first_line (check_for k s) (map shown rs) ≡ first_line (check_for k s) rs
unfolding check_for
query_search k s rs f = go (eqb (number_of k) 32) (eqb (number_of k) 33)
  where
    chosen : Bool → Bool → Check Row
    chosen a b = cond a steps (cond b (check33 s) (check34 s))

    go : (a b : Bool) → first_line (chosen a b) (map shown rs) ≡ first_line (chosen a b) rs
    go true b = search_from steps steps_alike [] 1 rs f
    go false true = search_from (check33 s) (check33_alike s) [] 1 rs f
    go false false = search_from (check34 s) (check34_alike s) [] 1 rs f

asks-same : (r : Row) → QueryFormed r → asks_of (shown r) ≡ asks_of r
asks-same r f =
    either_same (is F r)
    (λ e i. field (kept1 r i) (record { field = field_no (kept2 r i); args = shown-pairs r f e i }))
    (λ i. on (type_no (kept1 r i)))

pub query-entries_same : (rs : List Row) → Each QueryFormed rs → (i : ℕ) → entries_from i (map shown rs) ≡ entries_from i rs
query-entries_same [] f i = refl
query-entries_same (r ∷ rs) f i =
    let asks = asks-same r f.0 in
    let ih = query-entries_same rs f.1 (suc i) in
    λ j. record { place = i; level = kept0 r j; asks = asks j } ∷ ih j
