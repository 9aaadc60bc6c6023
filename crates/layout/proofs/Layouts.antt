-- A sheet in either layout. All that the rest asks of a layout is a record of three laws, with an instance for each:
--
--   Laws, laws                 the bytes of cells p are of the right form (form) and have the cells p (cell); two strings of
--                              bytes of the right form with equal cells are equal (same)
--
-- and what follows from them and from the laws of rows:
--
--   in_size, bytes-size        bytes of the right form, and so the bytes of cells, have the layout's size
--   in-equal, in-back          equal cells have equal bytes; bytes of the right form are the bytes of their cells
--   in-unused, unused-in       the right form is the right size with no unused bit 1
--   in-zeros                   bytes that are all 0
--   size-most                  a sheet has at most 45,056 bytes
--   in-turned-form, in-turned-cell, in-turned-length, in-turned-bytes   one cell turned over, if that is asked for
--   transposed-form, transposed-cell, transposed-back   the other layout has the same cells, and turning back is nothing
--
-- Assumes nothing.
use mathlib.Core.Path.{◌≡◌, sym, ap, ◌∙◌}
use mathlib.Core.Bool.{Bool, false, xor, ◌&&◌}
use mathlib.Core.List.{List}
use Prim.Native.Nat.{ℕ, ◌*◌, ◌≤◌, ◌<◌}
use native.Mathlib.Nat.{mul-le-mul}
use native.Mathlib.Omega.{arith}
use lib.Dec.{eqb}
use lib.ListN.{length, replicate}
use Rattle.finite.proofs.Truth.{and_comm}
use Rattle.layout.specs.Cells.{row_bytes, sheet_bytes}
use Rattle.layout.specs.Stored.{Sizes, other_than, size_in, cell_in, FormIn, bytes_in, first_unused_in, turned_in, transposed}
use Rattle.layout.specs.declared.stored.Layout.{Layout}
use Rattle.layout.specs.declared.stored.Layout.TheVariants.{ByRow, ByColumn}
use Rattle.layout.proofs.Form.{same_bytes, bytes-form, bytes-cell, unused-form, form-unused, zeros-bytes}
use Rattle.layout.proofs.Turned.{turned-if-form, turned-if-cell, turned-if-length}

pub record Laws (lay : Layout) (n1 n2 : ℕ) : Type 0 where
  pub form : (p : ℕ → ℕ → Bool) → FormIn lay n1 n2 (bytes_in lay n1 n2 p)
  pub cell : (p : ℕ → ℕ → Bool) (i j : ℕ) → i < n1 → j < n2 → cell_in lay n1 n2 (bytes_in lay n1 n2 p) i j ≡ p i j
  pub same : (s t : List ℕ) → FormIn lay n1 n2 s → FormIn lay n1 n2 t
      → ((i j : ℕ) → i < n1 → j < n2 → cell_in lay n1 n2 s i j ≡ cell_in lay n1 n2 t i j) → s ≡ t

pub laws : (lay : Layout) (n1 n2 : ℕ) → Laws lay n1 n2
laws ByRow n1 n2 = record { form = bytes-form n1 n2; cell = bytes-cell n1 n2; same = same_bytes n1 n2 }
laws ByColumn n1 n2 = record {
  form = λ p. bytes-form n2 n1 (λ j i. p i j);
  cell = λ p i j li lj. bytes-cell n2 n1 (λ j i. p i j) j i lj li;
  same = λ s t fs ft h. same_bytes n2 n1 s t fs ft (λ j i lj li. h i j li lj);
}

pub in_size : (lay : Layout) (n1 n2 : ℕ) (s : List ℕ) → FormIn lay n1 n2 s → length s ≡ size_in lay n1 n2
in_size ByRow n1 n2 s f = f.size
in_size ByColumn n1 n2 s f = f.size

pub bytes-size : (lay : Layout) (n1 n2 : ℕ) (p : ℕ → ℕ → Bool) → length (bytes_in lay n1 n2 p) ≡ size_in lay n1 n2
bytes-size lay n1 n2 p = in_size lay n1 n2 (bytes_in lay n1 n2 p) ((laws lay n1 n2).form p)

pub in-equal : (lay : Layout) (n1 n2 : ℕ) (p q : ℕ → ℕ → Bool) → ((i j : ℕ) → i < n1 → j < n2 → p i j ≡ q i j) → bytes_in lay n1 n2 p ≡ bytes_in lay n1 n2 q
in-equal lay n1 n2 p q h =
    let L = laws lay n1 n2 in
    L.same (bytes_in lay n1 n2 p) (bytes_in lay n1 n2 q) (L.form p) (L.form q)
    (λ i j li lj. L.cell p i j li lj ∙ h i j li lj ∙ sym (L.cell q i j li lj))

pub in-back : (lay : Layout) (n1 n2 : ℕ) (s : List ℕ) → FormIn lay n1 n2 s → bytes_in lay n1 n2 (cell_in lay n1 n2 s) ≡ s
in-back lay n1 n2 s f =
    let L = laws lay n1 n2 in
    let p = cell_in lay n1 n2 s in
    L.same (bytes_in lay n1 n2 p) s (L.form p) f (L.cell p)

-- ---- unused bits, zeros and the size

pub unused-in : (lay : Layout) (n1 n2 : ℕ) (s : List ℕ) → length s ≡ size_in lay n1 n2 → first_unused_in lay n1 n2 s ≡ size_in lay n1 n2 → FormIn lay n1 n2 s
unused-in ByRow n1 n2 = unused-form n1 n2
unused-in ByColumn n1 n2 = unused-form n2 n1

pub in-unused : (lay : Layout) (n1 n2 : ℕ) (s : List ℕ) → FormIn lay n1 n2 s → first_unused_in lay n1 n2 s ≡ size_in lay n1 n2
in-unused ByRow n1 n2 = form-unused n1 n2
in-unused ByColumn n1 n2 = form-unused n2 n1

pub in-zeros : (lay : Layout) (n1 n2 : ℕ) (p : ℕ → ℕ → Bool) → ((i j : ℕ) → i < n1 → j < n2 → p i j ≡ false)
    → replicate (size_in lay n1 n2) 0 ≡ bytes_in lay n1 n2 p
in-zeros ByRow n1 n2 p h = zeros-bytes n1 n2 p h
in-zeros ByColumn n1 n2 p h = zeros-bytes n2 n1 (λ j i. p i j) (λ j i lj li. h i j li lj)

pub size-most : (lay : Layout) (n1 n2 : ℕ) → Sizes n1 n2 → size_in lay n1 n2 ≤ 45056
unfolding sheet_bytes row_bytes
size-most ByRow n1 n2 S = let w : row_bytes n2 ≤ 88 = unfold row_bytes in omega (arith, S.n2_most) in mul-le-mul S.n1_most w
size-most ByColumn n1 n2 S =
    let w : row_bytes n1 ≤ 64 = unfold row_bytes in omega (arith, S.n1_most) in
    let m : n2 * row_bytes n1 ≤ 698 * 64 = mul-le-mul S.n2_most w in
    omega arith

-- ---- one cell turned over

module _ (lay : Layout) (n1 n2 : ℕ) (s : List ℕ) (f : FormIn lay n1 n2 s) (i j : ℕ) (li : i < n1) (lj : j < n2) (t : Bool) where
  pub in-turned-form : FormIn lay n1 n2 (turned_in t lay n1 n2 s i j)
  in-turned-form = go lay f
    where
      go : (lay : Layout) → FormIn lay n1 n2 s → FormIn lay n1 n2 (turned_in t lay n1 n2 s i j)
      go ByRow f = turned-if-form n1 n2 s f i j li lj t
      go ByColumn f = turned-if-form n2 n1 s f j i lj li t

  pub in-turned-cell : (a b : ℕ) → a < n1 → b < n2
      → cell_in lay n1 n2 (turned_in t lay n1 n2 s i j) a b ≡ xor (cell_in lay n1 n2 s a b) (t && (eqb i a && eqb j b))
  in-turned-cell a b la lb = go lay f
    where
      go : (lay : Layout) → FormIn lay n1 n2 s
          → cell_in lay n1 n2 (turned_in t lay n1 n2 s i j) a b ≡ xor (cell_in lay n1 n2 s a b) (t && (eqb i a && eqb j b))
      go ByRow f = turned-if-cell n1 n2 s f i j li lj t a b la lb
      go ByColumn f =
          turned-if-cell n2 n1 s f j i lj li t b a lb la
          ∙ ap (λ (e : Bool). xor (cell_in ByColumn n1 n2 s a b) (t && e)) (and_comm (eqb j b) (eqb i a))

pub in-turned-length : (t : Bool) (lay : Layout) (n1 n2 : ℕ) (s : List ℕ) (i j : ℕ) → length (turned_in t lay n1 n2 s i j) ≡ length s
in-turned-length t ByRow n1 n2 s i j = turned-if-length t n2 s i j
in-turned-length t ByColumn n1 n2 s i j = turned-if-length t n1 s j i

pub in-turned-bytes : (lay : Layout) (n1 n2 : ℕ) (t : Bool) (p q : ℕ → ℕ → Bool) (i j : ℕ) → i < n1 → j < n2
    → ((a b : ℕ) → a < n1 → b < n2 → xor (p a b) (t && (eqb i a && eqb j b)) ≡ q a b)
    → turned_in t lay n1 n2 (bytes_in lay n1 n2 p) i j ≡ bytes_in lay n1 n2 q
in-turned-bytes lay n1 n2 t p q i j li lj h =
    let L = laws lay n1 n2 in
    let s = bytes_in lay n1 n2 p in
    L.same (turned_in t lay n1 n2 s i j) (bytes_in lay n1 n2 q) (in-turned-form lay n1 n2 s (L.form p) i j li lj t) (L.form q)
    (λ a b la lb.
    in-turned-cell lay n1 n2 s (L.form p) i j li lj t a b la lb
    ∙ ap (λ (x : Bool). xor x (t && (eqb i a && eqb j b))) (L.cell p a b la lb)
    ∙ h a b la lb
    ∙ sym (L.cell q a b la lb))

-- ---- the other layout

module _ (lay : Layout) (n1 n2 : ℕ) (s : List ℕ) where
  pub transposed-form : FormIn (other_than lay) n1 n2 (transposed lay n1 n2 s)
  unfolding transposed
  transposed-form = (laws (other_than lay) n1 n2).form (cell_in lay n1 n2 s)

  pub transposed-cell : (i j : ℕ) → i < n1 → j < n2 → cell_in (other_than lay) n1 n2 (transposed lay n1 n2 s) i j ≡ cell_in lay n1 n2 s i j
  unfolding transposed
  transposed-cell = (laws (other_than lay) n1 n2).cell (cell_in lay n1 n2 s)

  pub transposed-back : FormIn lay n1 n2 s → transposed (other_than lay) n1 n2 (transposed lay n1 n2 s) ≡ s
  unfolding transposed
  transposed-back f = go lay f transposed-cell
    where
      go : (lay : Layout) → FormIn lay n1 n2 s
          → ((i j : ℕ) → i < n1 → j < n2 → cell_in (other_than lay) n1 n2 (transposed lay n1 n2 s) i j ≡ cell_in lay n1 n2 s i j)
          → transposed (other_than lay) n1 n2 (transposed lay n1 n2 s) ≡ s
      go ByRow f h = in-equal ByRow n1 n2 _ _ h ∙ in-back ByRow n1 n2 s f
      go ByColumn f h = in-equal ByColumn n1 n2 _ _ h ∙ in-back ByColumn n1 n2 s f
