-- The place search and the stretch test on the columns are those on the list of entries.
use Prim.Native.Nat.{ℕ, suc, ◌+◌, ◌≤◌, ◌<◌, Ordering}
use Rattle.std.specs.Prelude.{Err, Ok, Result}
use Rattle.std.specs.declared.cmp.Ordering.{Ordering as Side}
use Rattle.std.specs.declared.cmp.Ordering.TheVariants.{Less, Equal, Greater}
use mathlib.Core.Path.{◌≡◌, refl, sym, ap, ap₂, subst, ◌∙◌}
use mathlib.Core.List.{List, [], ◌∷◌}
use mathlib.Core.Bool.{Bool, true, false, cond, ◌&&◌, ◌||◌}
use mathlib.Core.Option.{Option, none, some}
use native.Mathlib.Nat.{zero-add}
use native.Mathlib.Omega.{arith}
use borrow.Author.Tests.{ne_eqb}
use lib.Dec.{ltb}
use lib.ListN.{length, get_or, set}
use Rattle.row_tags.specs.Tags.{tag_channel}
use Rattle.buffer_copies.specs.Sizes.{slots}
use Rattle.buffer_copies.specs.Pairs.{half, ahead, order, side_of}
use Rattle.buffer_copies.specs.Entries.{Entry, side_of_entry, put_at, put, find_at, find_by, always}
use Rattle.buffer_copies.specs.Verdicts.{all_within, fits}
use Rattle.buffer_copies.proofs.WrapLaws.{order_same}
use Rattle.buffer_layout.specs.Columns.{within_from, fits_from}
use Rattle.buffer_columns.specs.Places.{place_at, place_from}
use Rattle.buffer_layout.specs.Layout.{entry_tag, column}
use Rattle.buffer_layout.proofs.ColumnLaws.{inserted}
use Rattle.buffer_layout.proofs.LayoutLaws.{no_entry, Octets, column_at, column_first, at_member, tag_channel_lem}

-- A place in a list: what it says of `find_by` and of `put`

abbrev pub place_within : Result ℕ ℕ → ℕ → Type 0
place_within (Ok i) n = i < n
place_within (Err i) n = i ≤ n

abbrev pub held_by : Result ℕ ℕ → List Entry → Option Entry
held_by (Ok i) es = some (get_or es i no_entry)
held_by (Err i) es = none

abbrev pub put_by : Entry → Result ℕ ℕ → List Entry → List Entry
put_by e (Ok i) es = set es i e
put_by e (Err i) es = inserted i e es

-- the pair that is found is the pair looked for
abbrev pub same_pair : Entry → Result ℕ ℕ → List Entry → Type 0
same_pair e (Ok i) es = (e.time ≡ (get_or es i no_entry).time) × (e.channel ≡ (get_or es i no_entry).channel)
same_pair e (Err i) es = Unit {0}

pub record AtPlace (e : Entry) (es : List Entry) (p : Result ℕ ℕ) : Type 0 where
  pub within : place_within p (length es)
  pub same : same_pair e p es
  pub held : find_by (side_of_entry e) es ≡ held_by p es
  pub put : put side_of_entry always e es ≡ put_by e p es

shift : ℕ → Result ℕ ℕ → Result ℕ ℕ
shift i (Ok j) = Ok (i + j)
shift i (Err j) = Err (i + j)

later : Result ℕ ℕ → Result ℕ ℕ
later (Ok i) = Ok (suc i)
later (Err i) = Err (suc i)

shift_none : (p : Result ℕ ℕ) → shift 0 p ≡ p
unfolding shift
shift_none (Ok i) = ap Ok (zero-add i)
shift_none (Err i) = ap Err (zero-add i)

module _ (e : Entry) where
  -- the place of e
  place_in : List Entry → Result ℕ ℕ
  place_in [] = Err 0
  place_in (x ∷ es) = place_at (side_of (side_of_entry e x)) 0 (later (place_in es))

  at_place : (es : List Entry) → AtPlace e es (place_in es)
  unfolding place_in later find_by put inserted
  at_place [] = record { within = omega arith; same = tt; held = refl; put = refl }
  at_place (x ∷ es) = let g = go (side_of_entry e x) refl (place_in es) (at_place es) in record { within = g.0; same = g.1; held = g.2; put = g.3 }
    where
      go : (o : Ordering) → side_of_entry e x ≡ o → (p : Result ℕ ℕ) → AtPlace e es p
          → place_within (place_at (side_of o) 0 (later p)) (suc (length es)) × same_pair e (place_at (side_of o) 0 (later p)) (x ∷ es) × (find_at o x (find_by (side_of_entry e) es) ≡ held_by (place_at (side_of o) 0 (later p)) (x ∷ es))
          × (put_at side_of_entry always o e x es (put side_of_entry always e es) ≡ put_by e (place_at (side_of o) 0 (later p)) (x ∷ es))
      go Ordering.lt q p a = (omega arith, tt, refl, refl)
      go Ordering.eq q p a = (omega arith, order_same e.time e.channel x.time x.channel q, refl, refl)
      go Ordering.gt q (Ok i) a = (omega (arith, a.within), a.same, a.held, ap (λ (l : List Entry). x ∷ l) a.put)
      go Ordering.gt q (Err i) a = (omega (arith, a.within), tt, a.held, ap (λ (l : List Entry). x ∷ l) a.put)

  -- the search on columns, from the place i on where the entries lie
  module _ (times tags : List ℕ) where
    search_from : (es : List Entry) (i : ℕ)
        → ((j : ℕ) → j < length es → (get_or times (i + j) 0 ≡ (get_or es j no_entry).time) × (tag_channel (get_or tags (i + j) 0) ≡ (get_or es j no_entry).channel))
        → place_from times tags e.time e.channel (length es) i ≡ shift i (place_in es)
    unfolding place_from place_in shift later
    search_from [] i p = ap Err (let z : i ≡ i + 0 = omega arith in z)
    search_from (x ∷ es) i p =
        ap₂ (λ (t c : ℕ). place_at (side_of (order e.time e.channel t c)) i (place_from times tags e.time e.channel (length es) (i + 1)))
        (ap (λ (m : ℕ). get_or times m 0) z ∙ (p 0 (omega arith)).0) (ap (λ (m : ℕ). tag_channel (get_or tags m 0)) z ∙ (p 0 (omega arith)).1)
        ∙ go (side_of (side_of_entry e x)) (place_in es)
        (search_from es (i + 1) (λ j h. (ap (λ (m : ℕ). get_or times m 0) (next j) ∙ (p (suc j) (omega arith)).0, ap (λ (m : ℕ). tag_channel (get_or tags m 0)) (next j) ∙ (p (suc j) (omega arith)).1)))
      where
        z : i ≡ i + 0
        z = omega arith

        next : (j : ℕ) → i + 1 + j ≡ i + suc j
        next j = omega arith

        go : (s : Side) (p : Result ℕ ℕ) → place_from times tags e.time e.channel (length es) (i + 1) ≡ shift (i + 1) p
            → place_at s i (place_from times tags e.time e.channel (length es) (i + 1)) ≡ shift i (place_at s 0 (later p))
        go Less p q = ap Err z
        go Equal p q = ap Ok z
        go Greater (Ok j) q = q ∙ ap Ok (next j)
        go Greater (Err j) q = q ∙ ap Err (next j)

-- The search among the columns of a list

module _ (e : Entry) (es : List Entry) (room : length es ≤ slots) (octets : Octets es) where
  search_is : place_from (column (λ x. x.time) es) (column entry_tag es) e.time e.channel (length es) 0 ≡ place_in e es
  search_is =
      search_from e (column (λ x. x.time) es) (column entry_tag es) es 0
      (λ j h. (
        ap (λ (m : ℕ). get_or (column (λ x. x.time) es) m 0) (zero-add j) ∙ column_at (λ x. x.time) es j refl (omega arith),
        ap (λ (m : ℕ). tag_channel (get_or (column entry_tag es) m 0)) (zero-add j) ∙ ap tag_channel (column_at entry_tag es j refl (omega arith))
            ∙ tag_channel_lem (get_or es j no_entry) (octets (get_or es j no_entry) (at_member es j h)),
      ))
      ∙ shift_none (place_in e es)

  pub place_at_lem : (p : Result ℕ ℕ) → p ≡ place_from (column (λ x. x.time) es) (column entry_tag es) e.time e.channel (length es) 0 → AtPlace e es p
  place_at_lem p q = subst (AtPlace e es) (sym (q ∙ search_is)) (at_place e es)

-- The stretch

module _ (t : ℕ) where
  within_from_lem : (times : List ℕ) (es : List Entry) (i : ℕ) → ((j : ℕ) → j < length es → get_or times (i + j) 0 ≡ (get_or es j no_entry).time)
      → within_from times t (length es) i ≡ all_within t es
  unfolding within_from all_within
  within_from_lem times [] i p = refl
  within_from_lem times (x ∷ es) i p =
      ap₂ (λ (n : ℕ) (r : Bool). cond (ltb (ahead n t) half) r false)
      (ap (λ (m : ℕ). get_or times m 0) (let z : i ≡ i + 0 = omega arith in z) ∙ p 0 (omega arith))
      (within_from_lem times es (i + 1) (λ j h. ap (λ (m : ℕ). get_or times m 0) (let z : i + 1 + j ≡ i + suc j = omega arith in z) ∙ p (suc j) (omega arith)))
      ∙ both (ltb (ahead x.time t) half)
    where
      both : (b : Bool) → cond b (all_within t es) false ≡ b && all_within t es
      both true = refl
      both false = refl

  pub fits_is : (es : List Entry) → length es ≤ slots → fits_from (column (λ x. x.time) es) t (length es) ≡ fits t es
  unfolding fits_from fits
  fits_is [] h = refl
  fits_is (x ∷ es) h =
      rw (
        ne_eqb (suc (length es)) 0 (omega arith),
        column_first (λ y. y.time) x es,
        within_from_lem (column (λ y. y.time) (x ∷ es)) (x ∷ es) 0 (λ j l. ap (λ (m : ℕ). get_or (column (λ y. y.time) (x ∷ es)) m 0) (zero-add j) ∙ column_at (λ y. y.time) (x ∷ es) j refl (omega arith)),
      )
      (either (ltb (ahead t x.time) half))
    where
      either : (b : Bool) → cond b true (all_within t (x ∷ es)) ≡ b || all_within t (x ∷ es)
      either true = refl
      either false = refl
