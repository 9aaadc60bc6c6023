-- The parts of a plan's bytes:
--
--   joined-..                                  lists of four bytes one after another: their length, one more, one in the middle
--   length-kept                                a step of writing keeps the length of the plan
--   header-length, table-length, list_length   how many bytes each part has
--   table_none, list-none                      no entry, no pair
--   table-next, list-next                      one entry more, one pair more
--   table-equal, list-equal                    equal entries have equal bytes
--   header-written                             the eleven numbers of a header, two at a time, and t last
--   table-read, list-row, list-column          entry k and pair k, read back from the middle of a list of bytes
--
-- Assumes nothing.
use mathlib.Core.Path.{◌≡◌, refl, sym, ap, ap₂, ◌∙◌}
use mathlib.Core.List.{List, ◌++◌, append_assoc}
use Prim.Native.Nat.{ℕ, zero, suc, ◌+◌, ◌*◌, ◌<◌}
use native.Mathlib.Numerals.{add-one}
use native.Mathlib.Decide.{ℕ_discrete}
use native.Mathlib.Omega.{arith}
use lib.ListN.{length, length-append}
use Rattle.layout.specs.Number.{u16_at, u32_at, low_bytes, overwritten}
use Rattle.layout.specs.Joined.{joined}
use Rattle.layout.proofs.Joined.{joined_length, joined-equal}
use Rattle.layout.proofs.Overwriting.{low-length, overwritten-length, overwritten-append, u16-back, u32-back}
use Rattle.plan.specs.declared.header.Header.{Header}
use Rattle.plan.specs.Header.{header_length}
use Rattle.encode.specs.Encode.{header_bytes, table_bytes, list_bytes}

-- ---- lists one after another, four bytes each

module _ (f : ℕ → List ℕ) where
  -- none is written
  joined-none : (s : List ℕ) (o : ℕ) → s ≡ overwritten s o (joined 0 f)
  unfolding overwritten joined
  joined-none s o = refl

  -- list k, in the middle of others
  joined_at : (n k : ℕ) → k < n → (pre post : List ℕ) → (rest : List ℕ) × (pre ++ (joined n f ++ post) ≡ pre ++ joined k f ++ (f k ++ rest))
  unfolding joined
  joined_at zero k l pre post = absurd (omega arith)
  joined_at (suc n) k l pre post = go (ℕ_discrete k n) (λ m. joined_at n k m pre (f n ++ post))
    where
      apart : pre ++ (joined n f ++ f n ++ post) ≡ pre ++ (joined n f ++ (f n ++ post))
      apart = ap (λ (t : List ℕ). pre ++ t) (append_assoc (joined n f) (f n) post)

      go : Dec (k ≡ n) → (k < n → (rest : List ℕ) × (pre ++ (joined n f ++ (f n ++ post)) ≡ pre ++ joined k f ++ (f k ++ rest)))
          → (rest : List ℕ) × (pre ++ (joined n f ++ f n ++ post) ≡ pre ++ joined k f ++ (f k ++ rest))
      go (yes e) ih = rw e (post, apart ∙ sym (append_assoc pre (joined n f) (f n ++ post)))
      go (no e) ih = let r = ih (omega arith) in (r.0, apart ∙ r.1)

  module _ (four : (k : ℕ) → length (f k) ≡ 4) where
    joined-four : (n : ℕ) → length (joined n f) ≡ 4 * n
    joined-four n = let e = joined_length 4 n f (λ k _. four k) in omega arith

    -- where list k stands
    joined-place : (pre : List ℕ) (k : ℕ) → length (pre ++ joined k f) ≡ length pre + 4 * k
    joined-place pre k = let e = joined-four k in length-append pre (joined k f) ∙ omega arith

    -- one more is written
    joined-next : (s t u : List ℕ) (o k : ℕ) → t ≡ overwritten s o (joined k f) → u ≡ overwritten t (o + 4 * k) (f k)
        → u ≡ overwritten s o (joined (k + 1) f)
    unfolding joined
    joined-next s t u o k before here =
        here
        ∙ ap₂ (λ (r : List ℕ) (n : ℕ). overwritten r (o + n) (f k)) before (sym (joined-four k))
        ∙ sym (overwritten-append s o (joined k f) (f k))
        ∙ ap (λ (n : ℕ). overwritten s o (joined n f)) (sym (add-one k))

pub length-kept : (s t : List ℕ) (o : ℕ) (xs : List ℕ) → t ≡ overwritten s o xs → length t ≡ length s
length-kept s t o xs e = ap length e ∙ overwritten-length s o xs

-- ---- a table

module _ (f : ℕ → ℕ) where
  abbrev entry : ℕ → List ℕ
  entry k = low_bytes 4 (f k)

  four_bytes : (k : ℕ) → length (entry k) ≡ 4
  four_bytes k = low-length 4 (f k)

  pub table-length : (n : ℕ) → length (table_bytes n f) ≡ 4 * n
  unfolding table_bytes
  table-length = joined-four entry four_bytes

  pub table_none : (s : List ℕ) (o : ℕ) → s ≡ overwritten s o (table_bytes 0 f)
  unfolding table_bytes
  table_none = joined-none entry

  pub table-next : (s t u : List ℕ) (o k : ℕ) → t ≡ overwritten s o (table_bytes k f) → u ≡ overwritten t (o + 4 * k) (low_bytes 4 (f k))
      → u ≡ overwritten s o (table_bytes (k + 1) f)
  unfolding table_bytes
  table-next = joined-next entry four_bytes

  pub table-equal : (g : ℕ → ℕ) (n : ℕ) → ((k : ℕ) → k < n → f k ≡ g k) → table_bytes n f ≡ table_bytes n g
  unfolding table_bytes
  table-equal g n e = joined-equal n entry (λ k. low_bytes 4 (g k)) (λ k l. ap (low_bytes 4) (e k l))

  pub table-read : (n k : ℕ) → k < n → f k < 4294967296 → (pre post : List ℕ) → u32_at (pre ++ (table_bytes n f ++ post)) (length pre + 4 * k) ≡ f k
  unfolding table_bytes
  table-read n k l b pre post =
      let a = joined_at entry n k l pre post in
      ap₂ u32_at a.1 (sym (joined-place entry four_bytes pre k)) ∙ u32-back (pre ++ joined k entry) a.0 (f k) b

-- ---- a check list

module _ (row column : ℕ → ℕ) where
  abbrev pair : ℕ → List ℕ
  pair k = low_bytes 2 (row k) ++ low_bytes 2 (column k)

  pair-bytes : (k : ℕ) → length (pair k) ≡ 4
  unfolding low_bytes
  pair-bytes k = refl

  pub list_length : (n : ℕ) → length (list_bytes n row column) ≡ 4 * n
  unfolding list_bytes
  list_length = joined-four pair pair-bytes

  pub list-none : (s : List ℕ) (o : ℕ) → s ≡ overwritten s o (list_bytes 0 row column)
  unfolding list_bytes
  list-none = joined-none pair

  pub list-next : (s t u : List ℕ) (o k : ℕ) → t ≡ overwritten s o (list_bytes k row column)
      → u ≡ overwritten t (o + 4 * k) (low_bytes 2 (row k) ++ low_bytes 2 (column k)) → u ≡ overwritten s o (list_bytes (k + 1) row column)
  unfolding list_bytes
  list-next = joined-next pair pair-bytes

  pub list-equal : (row' column' : ℕ → ℕ) (n : ℕ) → ((k : ℕ) → k < n → row k ≡ row' k) → ((k : ℕ) → k < n → column k ≡ column' k)
      → list_bytes n row column ≡ list_bytes n row' column'
  unfolding list_bytes
  list-equal row' column' n r c =
      joined-equal n pair (λ k. low_bytes 2 (row' k) ++ low_bytes 2 (column' k))
      (λ k l. ap₂ (λ (x y : ℕ). low_bytes 2 x ++ low_bytes 2 y) (r k l) (c k l))

  -- pair k, its two numbers apart
  pair-at : (n k : ℕ) → k < n → (pre post : List ℕ)
      → (rest : List ℕ) × (pre ++ (joined n pair ++ post) ≡ pre ++ joined k pair ++ (low_bytes 2 (row k) ++ (low_bytes 2 (column k) ++ rest)))
  pair-at n k l pre post =
      let a = joined_at pair n k l pre post in
      (a.0, a.1 ∙ ap (λ (t : List ℕ). pre ++ joined k pair ++ t) (append_assoc (low_bytes 2 (row k)) (low_bytes 2 (column k)) a.0))

  pub list-row : (n k : ℕ) → k < n → row k < 65536 → (pre post : List ℕ)
      → u16_at (pre ++ (list_bytes n row column ++ post)) (length pre + 4 * k) ≡ row k
  unfolding list_bytes
  list-row n k l b pre post =
      let a = pair-at n k l pre post in
      ap₂ u16_at a.1 (sym (joined-place pair pair-bytes pre k)) ∙ u16-back (pre ++ joined k pair) (low_bytes 2 (column k) ++ a.0) (row k) b

  pub list-column : (n k : ℕ) → k < n → column k < 65536 → (pre post : List ℕ)
      → u16_at (pre ++ (list_bytes n row column ++ post)) (length pre + 4 * k + 2) ≡ column k
  unfolding list_bytes
  list-column n k l b pre post =
      let a = pair-at n k l pre post in
      let before = pre ++ joined k pair in
      let w : length (before ++ low_bytes 2 (row k)) ≡ length pre + 4 * k + 2 =
      (let x = joined-place pair pair-bytes pre k in
      let y = low-length 2 (row k) in
      length-append before (low_bytes 2 (row k)) ∙ omega arith) in
      ap₂ u16_at (a.1 ∙ sym (append_assoc before (low_bytes 2 (row k)) (low_bytes 2 (column k) ++ a.0))) (sym w)
      ∙ u16-back (before ++ low_bytes 2 (row k)) a.0 (column k) b

-- ---- the header

pub header-length : (h : Header) → length (header_bytes h) ≡ header_length
unfolding header_bytes low_bytes
header-length h = refl

pub header-written : (h : Header) (s s1 s2 s3 s4 s5 s6 : List ℕ) → s1 ≡ overwritten s 0 (low_bytes 2 h.n1 ++ low_bytes 2 h.n2)
    → s2 ≡ overwritten s1 4 (low_bytes 2 h.b1 ++ low_bytes 2 h.b2) → s3 ≡ overwritten s2 8 (low_bytes 2 h.rv ++ low_bytes 2 h.rh)
    → s4 ≡ overwritten s3 12 (low_bytes 2 h.rows ++ low_bytes 2 h.columns) → s5 ≡ overwritten s4 16 (low_bytes 2 h.checks ++ low_bytes 2 h.total)
    → s6 ≡ overwritten s5 20 (low_bytes 2 h.t) → s6 ≡ overwritten s 0 (header_bytes h)
unfolding header_bytes low_bytes overwritten
header-written h s s1 s2 s3 s4 s5 s6 e1 e2 e3 e4 e5 e6 =
    e6
    ∙ ap (λ (t : List ℕ). overwritten t 20 (low_bytes 2 h.t))
    (e5
    ∙ ap (λ (t : List ℕ). overwritten t 16 (low_bytes 2 h.checks ++ low_bytes 2 h.total))
    (e4
    ∙ ap (λ (t : List ℕ). overwritten t 12 (low_bytes 2 h.rows ++ low_bytes 2 h.columns))
    (e3
    ∙ ap (λ (t : List ℕ). overwritten t 8 (low_bytes 2 h.rv ++ low_bytes 2 h.rh))
    (e2 ∙ ap (λ (t : List ℕ). overwritten t 4 (low_bytes 2 h.b1 ++ low_bytes 2 h.b2)) e1))))
