-- What the entries of a query area ask, and the list of them by index. Assumes nothing.
use Prim.Native.Nat.{ℕ, zero, suc, ◌+◌, ◌≤◌, ◌<◌}
use native.Mathlib.Omega.{arith}
use native.Mathlib.Numerals.{add-one}
use mathlib.Core.Path.{◌≡◌, refl, sym, ap, ◌∙◌}
use mathlib.Core.List.{List, [], ◌∷◌, map}
use lib.Dec.{eqb}
use lib.ListN.{length, get_or, drop, drop_of_length-le}
use lib.Seq.{drop-cons}
use borrow.Author.Tests.{eq-eqb, ne_eqb}
use Rattle.rules.specs.Text.{at, field_no, type_no}
use Rattle.rules.specs.Lists.{count_up}
use Rattle.rules.specs.Tree.{field, on, Entry, asks_of, entries_from, entries}
use Rattle.tables.specs.Read.{cell, wide_at}
use Rattle.query.specs.Entries.{entry_at, entries_from as rows_from, entries_at}
use Rattle.query.proofs.Cells.{elim_cond, letter_at_lem, depth-at, second_at, third_at}
use Rattle.world.specs.World.{asks_at, asked_at, entry_in}

-- ---- a field, and a type condition

module _ (q : List ℕ) (k : ℕ) where
  pub asks-field : wide_at q 8 k 0 ≡ 70 → asks_at q k ≡ field (wide_at q 8 k 3) (asked_at q k)
  unfolding asks_at asked_at
  asks-field h =
      elim_cond (eqb (entry_at q k).letter 70) (field (at (entry_at q k) 1) (asked_at q k)) (on (type_no (at (entry_at q k) 1)))
      ∙ rw (letter_at_lem q k, eq-eqb (wide_at q 8 k 0) 70 h, second_at q k)

  pub asks-on : (wide_at q 8 k 0 ≡ 70 → ⊥) → asks_at q k ≡ on (type_no (wide_at q 8 k 3))
  unfolding asks_at asked_at
  asks-on h =
      elim_cond (eqb (entry_at q k).letter 70) (field (at (entry_at q k) 1) (asked_at q k)) (on (type_no (at (entry_at q k) 1)))
      ∙ rw (letter_at_lem q k, ne_eqb (wide_at q 8 k 0) 70 h, second_at q k)

  pub asked-field : (asked_at q k).field ≡ field_no (wide_at q 8 k 4)
  unfolding asked_at
  asked-field = ap field_no (third_at q k)

-- ---- all entries

module _ (q : List ℕ) where
  -- the n entries from i on
  abbrev listed : ℕ → ℕ → List Entry
  listed n i = entries_from i (map (entry_at q) (count_up i n))

  entry_in_lem : (i : ℕ) → record { place = i; level = at (entry_at q i) 0; asks = asks_of (entry_at q i) } ≡ entry_in q i
  unfolding entry_in asks_at
  entry_in_lem i = ap (λ (d : ℕ). record { place = i; level = d; asks = asks_of (entry_at q i) }) (depth-at q i)

  listed-length : (n i : ℕ) → length (listed n i) ≡ n
  listed-length zero i = refl
  listed-length (suc n) i = ap suc (listed-length n (suc i))

  listed_at : (n i k : ℕ) (e₀ : Entry) → k < n → get_or (listed n i) k e₀ ≡ entry_in q (i + k)
  listed_at zero i k e₀ h = absurd (omega arith)
  listed_at (suc n) i zero e₀ h = entry_in_lem i ∙ ap (entry_in q) (omega arith)
  listed_at (suc n) i (suc k) e₀ h = listed_at n (suc i) k e₀ (omega arith) ∙ ap (entry_in q) (omega arith)

  pub entries-length : length (entries (entries_at q)) ≡ cell q 0
  unfolding entries_at rows_from
  entries-length = listed-length (cell q 0) 0

  pub entries-at : (k : ℕ) (e₀ : Entry) → k < cell q 0 → get_or (entries (entries_at q)) k e₀ ≡ entry_in q k
  unfolding entries_at rows_from
  entries-at k e₀ h = listed_at (cell q 0) 0 k e₀ h ∙ ap (entry_in q) (omega arith)

  pub entries_end : (k : ℕ) → cell q 0 ≤ k → drop k (entries (entries_at q)) ≡ []
  entries_end k h = drop_of_length-le (entries (entries_at q)) {i = k} (omega (arith, entries-length))

  pub entries-more : (k : ℕ) → k < cell q 0 → drop k (entries (entries_at q)) ≡ entry_in q k ∷ drop (k + 1) (entries (entries_at q))
  entries-more k h =
      let es = entries (entries_at q) in
      drop-cons es k (entry_in q k) (omega (arith, entries-length))
      ∙ ap (λ (e : Entry). e ∷ drop (suc k) es) (entries-at k (entry_in q k) h)
      ∙ ap (λ (n : ℕ). entry_in q k ∷ drop n es) (sym (add-one k))
