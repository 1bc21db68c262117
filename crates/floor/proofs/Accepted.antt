-- What the number 0 of a floor says: none of the refusals 1, 2 and 3 applies. Assumes nothing.
use Prim.Native.Nat.{ℕ, ◌*◌, ◌<◌, ◌≤◌}
use mathlib.Core.List.{List}
use mathlib.Core.Logic.{inl, inr, ⊎_elim}
use mathlib.Core.Path.{◌≡◌, refl}
use native.Mathlib.Decide.{ℕ_discrete}
use native.Mathlib.Nat.{mul-le-mul}
use native.Mathlib.Omega.{arith}
use lib.ListN.{length}
use Rattle.floor.specs.Refusals.{FirstOf}
use Rattle.floor.specs.Words.{row_words, SizeRefused, UnusedClear, floor_rows, Sized, Floor}

-- the limits of sizes that are not refused
pub record Fits (w h : ℕ) : Type 0 where
  pub some_width : 1 ≤ w
  pub some_height : 1 ≤ h
  pub wide : w ≤ 255
  pub high : h ≤ 255
  pub few_cells : w * h ≤ 16384

-- sizes that are not refused are within the limits
pub fits : (w h : ℕ) → ¬ (SizeRefused w h) → Fits w h
fits w h n =
    record {
      some_width = at_least w (λ e. n (inl e));
      some_height = at_least h (λ e. n (inr (inl e)));
      wide = at_most w 255 (λ l. n (inr (inr (inl l))));
      high = at_most h 255 (λ l. n (inr (inr (inr (inl l)))));
      few_cells = at_most (w * h) 16384 (λ l. n (inr (inr (inr (inr l)))));
    }
  where
    at_least : (a : ℕ) → ¬ (a ≡ 0) → 1 ≤ a
    at_least a m = omega (arith, m)

    at_most : (a b : ℕ) → ¬ (b < a) → a ≤ b
    at_most a b m = omega (arith, m)

-- numbers that do not differ are the same
same_count : (a b : ℕ) → ¬ (¬ (a ≡ b)) → a ≡ b
same_count a b n = by (ℕ_discrete a b)
  where
    by : Dec (a ≡ b) → a ≡ b
    by (yes e) = e
    by (no m) = absurd (n m)

-- a floor that is not refused is accepted
pub accepted : (w h : ℕ) (words : List ℕ) → FirstOf (floor_rows w h words) 0 → Floor w h words
accepted w h words p = ⊎_elim (λ a. absurd (zero_not 1 (omega arith) a.1)) (λ a. ⊎_elim (λ b. absurd (zero_not 2 (omega arith) b.1))
    (λ b. ⊎_elim (λ c. absurd (zero_not 3 (omega arith) c.1)) (λ c. floor a.0 b.0 c.0) b.1) a.1) p
  where
    zero_not : (k : ℕ) → 0 < k → ¬ (0 ≡ k)
    zero_not k l e = omega arith

    floor : ¬ (SizeRefused w h) → ¬ (¬ (length words ≡ h * row_words w)) → ¬ (UnusedClear w h words) → Floor w h words
    floor a b c =
        let f = fits w h a in
        record {
          some_width = f.some_width;
          some_height = f.some_height;
          few_cells = f.few_cells;
          sized = record { wide = f.wide; high = f.high; counted = same_count (length words) (h * row_words w) b };
          used = c;
        }

-- an accepted floor has at most 4 words in each of at most 255 rows
pub few_words : (w h : ℕ) (words : List ℕ) → Sized w h words → length words ≤ 1020
few_words w h words s =
    let n : row_words w ≤ 4 = omega arith in
    omega (arith, mul-le-mul s.high n)

-- and an accepted floor is not refused
pub rows_pass : (w h : ℕ) (words : List ℕ) → Floor w h words → FirstOf (floor_rows w h words) 0
rows_pass w h words f = inr (sizes, inr (λ n. n f.sized.counted, inr (f.used, refl)))
  where
    sizes : ¬ (SizeRefused w h)
    sizes =
        ⊎_elim (λ e. let l = f.some_width in omega arith)
        (⊎_elim (λ e. let l = f.some_height in omega arith)
        (⊎_elim (λ e. let l = f.sized.wide in omega arith)
        (⊎_elim (λ e. let l = f.sized.high in omega arith) (λ e. let l = f.few_cells in omega arith))))
