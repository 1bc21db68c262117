-- Bytes written into the part of a list from a place on are written into the list. Assumes nothing.
use Prim.Native.Nat.{ℕ, ◌+◌, ◌-◌}
use mathlib.Core.List.{List, [], ◌++◌, append_assoc, append-nil}
use mathlib.Core.Path.{◌≡◌, sym, ap, ap₂, ◌∙◌}
use native.Mathlib.Nat.{zero-add}
use native.Mathlib.Omega.{arith}
use lib.ListN.{length, take, drop, length-drop}
use lib.Seq.{take_all, drop-length, drop-drop}
use Rattle.writing.specs.Answers.{put_at, Put}

module _ (o y : List ℕ) (a k r : ℕ) (bytes : List ℕ) (e : k ≡ length o - a) (p : Put (take k (drop a o)) y 0 r bytes) where
  -- nothing follows the part
  none : drop k (drop a o) ≡ []
  none = ap (λ n. drop n (drop a o)) (e ∙ sym (length-drop a o)) ∙ drop-length (drop a o)

  -- what follows the bytes in the part follows them in the list
  rest : drop (0 + length bytes) (take k (drop a o)) ≡ drop (a + length bytes) o
  rest =
      ap₂ drop (zero-add (length bytes)) (take_all k (drop a o) (omega (arith, length-drop a o)))
      ∙ drop-drop (length bytes) a o

  -- what was put at the beginning of the part was put at its place in the list
  pub put_part : Put o (take a o ++ (y ++ drop k (drop a o))) a (a + r) bytes
  unfolding put_at
  put_part =
      record {
        written =
            ap (λ z. take a o ++ (y ++ z)) none
            ∙ ap (λ z. take a o ++ z) (append-nil y ∙ p.written)
            ∙ ap (λ z. take a o ++ (bytes ++ z)) rest
            ∙ sym (append_assoc (take a o) bytes (drop (a + length bytes) o));
        ends = omega (arith, p.ends);
      }

-- such a part has the rest of the list's length
pub part_length : (o : List ℕ) (a k : ℕ) → k ≡ length o - a → length (take k (drop a o)) ≡ k
part_length o a k e = ap length (take_all k (drop a o) (omega (arith, length-drop a o))) ∙ length-drop a o ∙ sym e
