-- The cells before a number in sheet order:
--
--   both-before     check cells and other cells, together
--   ends-most, ends-are   the data cells before a row and before the next: they fit, and come from the check cells before them
--   checks-most     the check cells before a number are no more than the cells
--   none_before     no check cell comes before the first row
--   Passed c t q    the first q check cells of the list stand before number t, and no other does
--   passed, passed-only   the check cells before t are such a number, and no other number is
--   next_here, next_past  the next check cell, or the number of cells past the list
--   next-ahead            it does not come before t
--   next-kept, next-free  up to it no check cell is passed, and none stands
--   next-left, next-check, next-passed   where it is on the sheet: the list has it, it is one, and one more is passed past it
--   UpTo c t q            the first q check cells stand before number t
--   up-to-first, up-to-next               such a number; one more
--   up-to-last, up-to-end                 all of them: the next stands at t or after it, or there is no next
--   checks-rise           the check cells before a row are no more than those before the next
--
-- Assumes nothing.
use mathlib.Core.Path.{◌≡◌, refl, sym, ap, ◌∙◌}
use mathlib.Core.Bool.{Bool, true, false, cond}
use Prim.Native.Nat.{ℕ, zero, suc, ◌+◌, ◌-◌, ◌*◌, ◌≤◌, ◌<◌}
use native.Mathlib.Nat.{zero-mul}
use native.Mathlib.Numerals.{add-one}
use native.Mathlib.Decide.{ℕ_discrete, dec_lt}
use native.Mathlib.Omega.{arith}
use borrow.Author.Tests.{lt-ltb, le-ltb}
use Rattle.finite.specs.Search.{count_below}
use Rattle.finite.proofs.Truth.{clash, not-true}
use Rattle.finite.proofs.Count.{count-not, count-split}
use Rattle.boxcode.specs.Code.{Code, Formed}
use Rattle.boxcode.specs.Check.{check_number, check_at}
use Rattle.boxcode.proofs.Check.{sheet-cells, check-rise, check-here, check-found}
use Rattle.position.specs.Walk.{checks_before, data_before, next_check, row_ends}
use Rattle.position.proofs.Size.{rows_next}

pub both-before : (c : Code) (t : ℕ) → checks_before c t + data_before c t ≡ t
unfolding checks_before data_before
both-before c t = count-not t (check_at c)

pub ends-most : (c : Code) → Formed c → (row : ℕ) → row ≤ c.n1 → row_ends c row ≤ 715450
unfolding row_ends
ends-most c F row l =
    let w : row ≤ 512 = omega (arith, F.n1_most) in
    let m = sheet-cells w F.n2_most in
    let n = rows_next row c.n2 in
    let a = both-before c (row * c.n2) in
    let b = both-before c ((row + 1) * c.n2) in
    omega (arith, F.n2_most)

pub ends-are : (c : Code) (row check past : ℕ) → check ≡ checks_before c (row * c.n2) → past ≡ checks_before c ((row + 1) * c.n2)
    → (row * c.n2 - check) + ((row + 1) * c.n2 - past) ≡ row_ends c row
unfolding row_ends
ends-are c row check past ec ep =
    let a = both-before c (row * c.n2) in
    let b = both-before c ((row + 1) * c.n2) in
    omega arith

pub checks-most : (c : Code) (t check : ℕ) → check ≡ checks_before c t → check ≤ t
checks-most c t check e = omega (arith, both-before c t)

pub checks-rise : (c : Code) (row check : ℕ) → check ≡ checks_before c (row * c.n2) → check ≤ checks_before c ((row + 1) * c.n2)
unfolding checks_before
checks-rise c row check e = rw (e, rows_next row c.n2, count-split (row * c.n2) c.n2 (check_at c)) (omega arith)

pub none_before : (c : Code) → 0 ≡ checks_before c (0 * c.n2)
unfolding checks_before count_below
none_before c = rw (zero-mul c.n2)

pub record Passed (c : Code) (t q : ℕ) : Type 0 where
  pub most : q ≤ c.rv + c.rh
  pub before : (k : ℕ) → k < q → check_number c k < t
  pub after : (k : ℕ) → q ≤ k → k < c.rv + c.rh → t ≤ check_number c k

module _ (c : Code) where
  pub next_here : (q : ℕ) → q < c.rv + c.rh → next_check c q ≡ check_number c q
  unfolding next_check
  next_here q l = rw (lt-ltb q (c.rv + c.rh) l)

  pub next_past : (q : ℕ) → c.rv + c.rh ≤ q → next_check c q ≡ c.n1 * c.n2
  unfolding next_check
  next_past q l = rw (le-ltb q (c.rv + c.rh) l)

module _ (c : Code) (F : Formed c) where
  -- the first check cell that is not passed stands at t where t is a check cell
  first-left : (t q : ℕ) → Passed c t q → check_at c t ≡ true → (q < c.rv + c.rh) × (check_number c q ≡ t)
  first-left t q P e = go w.0 w.1 w.2 (dec_lt w.0 q) (ℕ_discrete w.0 q)
    where
      w : (k : ℕ) × (k < c.rv + c.rh) × (check_number c k ≡ t)
      w = check-found c F t e

      go : (k : ℕ) → k < c.rv + c.rh → check_number c k ≡ t → Dec (k < q) → Dec (k ≡ q) → (q < c.rv + c.rh) × (check_number c q ≡ t)
      go k l n (yes h) d = let b : check_number c k < t = P.before k h in absurd (omega arith)
      go k l n (no h) (yes s) = (omega arith, ap (check_number c) (sym s) ∙ n)
      go k l n (no h) (no s) =
          let a : t ≤ check_number c q = P.after q (omega arith) (omega arith) in
          let u : check_number c q < check_number c k = check-rise c F q k (omega arith) l in
          absurd (omega arith)

  pub passed : (t : ℕ) → Passed c t (checks_before c t)
  unfolding checks_before count_below
  passed zero = record { most = omega arith; before = λ k l. absurd (omega arith); after = λ k h l. omega arith }
  passed (suc t) = go (check_at c t) refl (passed t)
    where
      q : ℕ
      q = count_below t (check_at c)

      go : (b : Bool) → check_at c t ≡ b → Passed c t q → Passed c (suc t) (q + cond b 1 0)
      go true e P =
          let w = first-left t q P e in
          record {
            most = omega arith;
            before = λ k h. earlier k h w.1 (ℕ_discrete k q);
            after = λ k h l. let u : check_number c q < check_number c k = check-rise c F q k (omega arith) l in omega (arith, w.1);
          }
        where
          earlier : (k : ℕ) → k < q + 1 → check_number c q ≡ t → Dec (k ≡ q) → check_number c k < suc t
          earlier k h n (yes s) = let m : check_number c k ≡ check_number c q = ap (check_number c) s in omega arith
          earlier k h n (no s) = let m : check_number c k < t = P.before k (omega arith) in omega arith
      go false e P = record {
        most = let m = P.most in omega arith;
        before = λ k h. let m : check_number c k < t = P.before k (omega arith) in omega arith;
        after = λ k h l.
            let m : t ≤ check_number c k = P.after k (omega arith) l in
            let n : check_number c k ≡ t → ⊥ = λ s. clash (ap (check_at c) (sym s) ∙ check-here c F k l) e in
            omega arith;
      }

  -- the check cells rise, so the first that is not passed tells of all
  pub passed-only : (t q : ℕ) → q ≤ c.rv + c.rh → ((k : ℕ) → k < q → check_number c k < t) → (q < c.rv + c.rh → t ≤ check_number c q)
      → q ≡ checks_before c t
  passed-only t q m before after = go (dec_lt q (checks_before c t)) (dec_lt (checks_before c t) q) (passed t)
    where
      go : Dec (q < checks_before c t) → Dec (checks_before c t < q) → Passed c t (checks_before c t) → q ≡ checks_before c t
      go (yes h) d P =
          let b : check_number c q < t = P.before q h in
          let a : t ≤ check_number c q = after (let n = P.most in omega arith) in
          absurd (omega arith)
      go (no h) (yes g) P =
          let b : check_number c (checks_before c t) < t = before (checks_before c t) g in
          let a : t ≤ check_number c (checks_before c t) = P.after (checks_before c t) (omega arith) (omega arith) in
          absurd (omega arith)
      go (no h) (no g) P = omega arith

  -- ---- up to the next check cell

  module _ (t q : ℕ) (e : q ≡ checks_before c t) where
    P : Passed c t q
    P = rw e (passed t)

    pub next-ahead : t ≤ c.n1 * c.n2 → t ≤ next_check c q
    next-ahead l = go (dec_lt q (c.rv + c.rh))
      where
        go : Dec (q < c.rv + c.rh) → t ≤ next_check c q
        go (yes h) = rw (next_here c q h) (P.after q (omega arith) h)
        go (no h) = rw (next_past c q (omega arith)) l

    pub next-kept : (u : ℕ) → t ≤ u → u ≤ next_check c q → q ≡ checks_before c u
    next-kept u l m =
        passed-only u q P.most (λ k lk. let b : check_number c k < t = P.before k lk in omega arith)
        (λ h. let n = next_here c q h in omega arith)

    pub next-free : (u : ℕ) → t ≤ u → u < next_check c q → check_at c u ≡ false
    next-free u l m = not-true (check_at c u) (λ b. let w = check-found c F u b in go w.0 w.1 w.2 (dec_lt w.0 q))
      where
        Q : Passed c (u + 1) (checks_before c (u + 1))
        Q = passed (u + 1)

        go : (k : ℕ) → k < c.rv + c.rh → check_number c k ≡ u → Dec (k < q) → ⊥
        go k lk n (yes h) = let b : check_number c k < t = P.before k h in omega arith
        go k lk n (no h) =
            let e : q ≡ checks_before c (u + 1) = next-kept (u + 1) (omega arith) (omega arith) in
            let a : u + 1 ≤ check_number c k = Q.after k (omega arith) lk in
            omega arith

  -- it is a check cell, and the last one passed where one goes past it
  module _ (q u : ℕ) (e : u ≡ next_check c q) (l : u < c.n1 * c.n2) where
    pub next-left : q < c.rv + c.rh
    next-left = go (dec_lt q (c.rv + c.rh))
      where
        go : Dec (q < c.rv + c.rh) → q < c.rv + c.rh
        go (yes h) = h
        go (no h) = let n = next_past c q (omega arith) in absurd (omega arith)

    pub next-check : check_at c u ≡ true
    next-check = ap (check_at c) (e ∙ next_here c q next-left) ∙ check-here c F q next-left

    pub next-passed : q ≡ checks_before c u → q + 1 ≡ checks_before c (u + 1)
    unfolding checks_before count_below
    next-passed p =
        ap (λ (x : ℕ). x + 1) p ∙ ap (λ (b : Bool). checks_before c u + cond b 1 0) (sym next-check)
        ∙ sym (ap (λ (n : ℕ). count_below n (check_at c)) (add-one u))

-- ---- check cell by check cell

-- the first q check cells stand before number t
pub record UpTo (c : Code) (t q : ℕ) : Type 0 where
  pub most : q ≤ c.rv + c.rh
  pub before : (k : ℕ) → k < q → check_number c k < t

pub up-to-next : (c : Code) (t u q next : ℕ) → UpTo c t q → q < c.rv + c.rh → next ≡ next_check c q → next < u → t ≤ u → UpTo c u (q + 1)
up-to-next c t u q next U l e h m = record { most = omega arith; before = λ k lk. go k lk (ℕ_discrete k q) }
  where
    go : (k : ℕ) → k < q + 1 → Dec (k ≡ q) → check_number c k < u
    go k lk (yes s) = let n = next_here c q l in let g : check_number c k ≡ check_number c q = ap (check_number c) s in omega arith
    go k lk (no s) = let b : check_number c k < t = U.before k (omega arith) in omega arith

module _ (c : Code) (F : Formed c) (t q : ℕ) where
  pub up-to-first : q ≤ checks_before c t → UpTo c t q
  up-to-first l = let P = passed c F t in record { most = omega (arith, P.most); before = λ k lk. P.before k (omega arith) }

  pub up-to-last : (next : ℕ) → UpTo c t q → next ≡ next_check c q → t ≤ next → q ≡ checks_before c t
  up-to-last next U e h = passed-only c F t q U.most U.before (λ l. let n = next_here c q l in omega arith)

  pub up-to-end : UpTo c t q → c.rv + c.rh ≤ q → q ≡ checks_before c t
  up-to-end U h = passed-only c F t q U.most U.before (λ l. absurd (omega arith))
