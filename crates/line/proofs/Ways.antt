-- The way from one number to another on an axis, and one step along it. Assumes nothing.
use Prim.Native.Nat.{ℕ, suc, pred, ◌+◌, ◌-◌, ◌<◌, ◌≤◌}
use mathlib.Core.Bool.{true, false}
use mathlib.Core.Logic.{◌⊎◌, inl, inr}
use mathlib.Core.Path.{◌≡◌, refl}
use native.Mathlib.Omega.{arith}
use lib.Dec.{ltb}
use borrow.Author.Tests.{ltb-true, ltb-false, le-ltb}
use Rattle.lengths.specs.Lengths.{gap}
use Rattle.floor.specs.Board.{Offset, less, same, more, shift, moving}
use Rattle.ground.specs.Line.{toward}
use Rattle.ground.proofs.Lines.{toward_more, toward_less}
use Rattle.ground.proofs.Logic.{true_or_false}
use Rattle.line.specs.Cells.{Nearer}

-- the way to the same number
pub toward_same : {m n : ℕ} → m ≡ n → toward m n ≡ same
toward_same {m} {n} h =
    let p : ltb m n ≡ false = le-ltb m n (omega arith) in
    let q : ltb n m ≡ false = le-ltb n m (omega arith) in
    rw (p, q)

-- what is shown of each way is shown of the way from m to n
pub by_way : (m n : ℕ) (P : Offset → Type 0) → (m < n → P more) → (n < m → P less) → (m ≡ n → P same) → P (toward m n)
by_way m n P more-so less-so same-so = by (true_or_false (ltb m n)) (true_or_false (ltb n m))
  where
    by : (ltb m n ≡ true) ⊎ (ltb m n ≡ false) → (ltb n m ≡ true) ⊎ (ltb n m ≡ false) → P (toward m n)
    by (inl p) q = rw p (more-so (ltb-true m n p))
    by (inr p) (inl q) = rw (p, q) (less-so (ltb-true n m q))
    by (inr p) (inr q) = rw (p, q) (same-so (omega (arith, ltb-false m n p, ltb-false n m q)))

module _ (m n : ℕ) where
  -- a step brings two numbers nearer by one
  pub gap_nearer : gap (shift (toward m n) m) n ≡ gap m n - 1
  gap_nearer =
      by_way m n (λ o. gap (shift o m) n ≡ gap m n - 1)
      (λ l. omega arith)
      (λ l. let e : gap (pred m) n ≡ gap m n - 1 = omega arith in e)
      (λ l. let e : gap m n ≡ gap m n - 1 = omega arith in e)

  -- while it has not arrived the way stays the same
  pub way_stays : 0 < gap (shift (toward m n) m) n → toward (shift (toward m n) m) n ≡ toward m n
  way_stays =
      by_way m n (λ o. 0 < gap (shift o m) n → toward (shift o m) n ≡ o)
      (λ l z. toward_more {m = suc m} {n = n} (omega arith))
      (λ l z. toward_less {m = pred m} {n = n} (let z' : 0 < gap (pred m) n = z in omega arith))
      (λ l z. toward_same {m = m} {n = n} l)

  -- where the numbers are the same it stands still
  pub way_none : gap m n ≡ 0 → toward m n ≡ same
  way_none e = toward_same {m = m} {n = n} (omega arith)

  -- and where they differ it moves
  pub way_moves : 0 < gap m n → moving (toward m n) ≡ true
  way_moves = by_way m n (λ o. 0 < gap m n → moving o ≡ true) (λ l z. refl) (λ l z. refl) (λ l z. absurd (omega arith))

-- ---- as the code takes it
module _ (a b : ℕ) where
  -- a number and the code of the way to b are no less than one
  pub side_fits : 1 ≤ a + shift (toward (suc a) (suc b)) 1
  side_fits =
      by_way (suc a) (suc b) (λ o. 1 ≤ a + shift o 1)
      (λ l. omega arith)
      (λ l. let e : 1 ≤ a + 0 = omega arith in e)
      (λ l. omega arith)

  -- what the code makes of them is one step nearer
  pub side_nearer : Nearer a b (a + shift (toward (suc a) (suc b)) 1 - 1)
  side_nearer = record { there = both.0; between = both.1 }
    where
      both : (suc (a + shift (toward (suc a) (suc b)) 1 - 1) ≡ shift (toward (suc a) (suc b)) (suc a)) ×
          ((a + shift (toward (suc a) (suc b)) 1 - 1 ≤ a) ⊎ (a + shift (toward (suc a) (suc b)) 1 - 1 ≤ b))
      both =
          by_way (suc a) (suc b) (λ o. (suc (a + shift o 1 - 1) ≡ shift o (suc a)) × ((a + shift o 1 - 1 ≤ a) ⊎ (a + shift o 1 - 1 ≤ b)))
          (λ l. (omega arith, inr (omega arith)))
          (λ l. let e : suc (a + 0 - 1) ≡ a = omega arith in let f : a + 0 - 1 ≤ a = omega arith in (e, inl f))
          (λ l. (omega arith, inl (omega arith)))
