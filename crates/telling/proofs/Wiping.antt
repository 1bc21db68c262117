-- Setting the first entries of a list to 0. Assumes nothing.
use Prim.Native.Nat.{ℕ, zero, suc, ◌≤◌}
use mathlib.Core.List.{List, ◌++◌}
use mathlib.Core.Path.{◌≡◌, refl, sym, ◌∙◌, ap}
use native.Mathlib.Omega.{arith}
use lib.ListN.{length, take, drop, replicate, length-append, length-replicate, length-take, length-drop}
use Rattle.corners.specs.Lists.{written}

-- the list with its first i entries 0
abbrev pub zeroed : ℕ → List ℕ → List ℕ
zeroed i xs = written (replicate i 0) xs

-- the part of the first i entries filled with 0 makes it
pub zeroed_filled : (xs : List ℕ) (i : ℕ) → i ≤ length xs → replicate (length (take i xs)) 0 ++ drop i xs ≡ zeroed i xs
zeroed_filled xs i l =
    let q : length (take i xs) ≡ i = omega (arith, length-take i xs) in
    ap (λ (n : ℕ). replicate n 0 ++ drop i xs) q ∙ ap (λ (n : ℕ). replicate i 0 ++ drop n xs) (sym (length-replicate i 0))

-- as many entries as before
pub zeroed_length : (xs : List ℕ) (i : ℕ) → i ≤ length xs → length (zeroed i xs) ≡ length xs
zeroed_length xs i l =
    length-append (replicate i 0) (drop (length (replicate i 0)) xs)
    ∙ omega (arith, length-replicate i (let z : ℕ = 0 in z), length-drop (length (replicate i (let z : ℕ = 0 in z))) xs)

-- and the entries behind them as they were
pub zeroed_rest : (xs : List ℕ) (i : ℕ) → drop i (zeroed i xs) ≡ drop i xs
zeroed_rest xs i = ap (λ (n : ℕ). drop i (replicate i 0 ++ drop n xs)) (length-replicate i 0) ∙ behind i
  where
    behind : (n : ℕ) → {ys : List ℕ} → drop n (replicate n 0 ++ ys) ≡ ys
    behind zero = refl
    behind (suc n) = behind n
