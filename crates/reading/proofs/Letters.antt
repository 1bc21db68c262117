-- The rows of a map in a text, and the words that they draw. Assumes nothing.
use Prim.Native.Nat.{ℕ, ◌+◌, ◌-◌, ◌*◌, ◌/◌, ◌%◌, ◌<◌, ◌≤◌}
use mathlib.Core.Bool.{Bool, true, false, ◌&&◌}
use mathlib.Core.List.{List, [], ◌∷◌, ◌++◌, append_assoc}
use mathlib.Core.Path.{◌≡◌, refl, sym, ap, ap₂, ◌∙◌}
use native.Mathlib.Decide.{dec_lt}
use native.Mathlib.Omega.{arith}
use lib.Dec.{ltb, eqb}
use lib.ListN.{length, get_or, take, drop, set, length-append, length-drop, take-append-drop}
use lib.Seq.{take_at, drop_at, drop-drop, get_or-drop, get_or-set_same, get_or-set_other, length-take-le}
use borrow.Author.Tests.{lt-ltb, le-ltb}
use Rattle.std.specs.Bool.{MatchBool}
use Rattle.std.specs.List.{AllWithin, HoldsAt}
use Rattle.floor.specs.Refusals.{Tells}
use Rattle.floor.specs.Words.{bit_clear, bit_free}
use Rattle.floor.proofs.Tables.{found, missing}
use Rattle.reading.specs.Lines.{At, Has}
use Rattle.reading.specs.Maps.{Letter, RowAt, free_letter}
use Rattle.reading.proofs.Places.{at_byte, first_byte}

-- a column past the letters is not free
pub past_letters : (w : ℕ) (letters : List ℕ) (x : ℕ) → w ≤ x → false ≡ free_letter w letters x
unfolding free_letter
past_letters w letters x l = rw (le-ltb x w l)

-- a column among them is free where its letter is
pub in_letters : (letters : List ℕ) (x : ℕ) → x < length letters → eqb (get_or letters x 0) 46 ≡ free_letter (length letters) letters x
unfolding free_letter
in_letters letters x l = rw (lt-ltb x (length letters) l)

module _ (text : List ℕ) (at w : ℕ) where
  -- the text from the place of a row on
  row_split : (r : RowAt text at w) → drop at text ≡ r.letters ++ 10 ∷ r.stands.rest
  row_split r = let s = r.stands in s.split ∙ ap (λ l. l ++ s.rest) s.is.written ∙ append_assoc r.letters (10 ∷ []) s.rest

  -- a row's letters are the text's
  pub row_letters : (r : RowAt text at w) → take w (drop at text) ≡ r.letters
  row_letters r = ap (take w) (row_split r) ∙ take_at r.letters _ w r.stands.is.long

  -- a row ends before the text does
  pub row_inside : RowAt text at w → at + w < length text
  row_inside r = let long = r.stands.is.long in omega (arith, length-drop at text, simp length-append at (ap length (row_split r)))

  -- after its letters a row has its newline
  pub row_ended : RowAt text at w → Has (λ b. b ≡ 10) (drop at text) w
  row_ended r =
      let f = first_byte (drop at text) w 10 r.stands.rest (ap (drop w) (row_split r) ∙ drop_at r.letters _ w r.stands.is.long) in
      record { inside = f.0; is = f.1 }

  -- w letters and a newline are a row
  row_found : Has (λ b. b ≡ 10) (drop at text) w → ((x : ℕ) → x < w → Letter (get_or (take w (drop at text)) x 0)) → RowAt text at w
  row_found n each =
      let i : at + w < length text = omega (arith, n.inside, length-drop at text) in
      record { letters = take w (drop at text); stands = at_byte text at (at + w) front i (record { long = long; each = each; written = ap (λ b. take w (drop at text) ++ b ∷ []) ended }) }
    where
      long : length (take w (drop at text)) ≡ w
      long = length-take-le w (drop at text) (omega (arith, n.inside))

      ended : get_or text (at + w) 0 ≡ 10
      ended = sym (get_or-drop at text w 0) ∙ n.is

      front : At (λ s. s ≡ take w (drop at text)) text at (at + w)
      front =
          record {
            line = take w (drop at text);
            rest = drop (at + w) text;
            is = refl;
            split = rw (← drop-drop w at text) (sym (take-append-drop w (drop at text)));
            ends = ap (λ k. at + k) (sym long);
          }

  -- whether w bytes that a newline follows are letters tells whether they are a row
  pub row_tells : Has (λ b. b ≡ 10) (drop at text) w → (bytes : List ℕ) → bytes ≡ take w (drop at text) → (r : Bool)
      → MatchBool r (AllWithin Letter bytes 0 (length bytes)) ((k : ℕ) × (k < length bytes) × HoldsAt (λ b. ¬ (Letter b)) bytes k) → Tells (RowAt text at w) r
  row_tells n bytes e true h =
      let long : length bytes ≡ w = ap length e ∙ length-take-le w (drop at text) (omega (arith, n.inside)) in
      found (row_found n (λ x l. rw e at (h x 0 (omega arith) (omega arith))))
  row_tells n bytes e false h =
      missing (λ r. let i = row_letters r in let long = r.stands.is.long in h.2 0 (rw (← (e ∙ i)) at (r.stands.is.each h.0 (omega (arith, h.1, ap length (e ∙ i))))))

-- the columns of a row are those of its letters
pub letters_same : (text : List ℕ) (at w : ℕ) (bytes : List ℕ) → bytes ≡ take w (drop at text) → (r : RowAt text at w) (x : ℕ) → free_letter (length bytes) bytes x ≡ free_letter w r.letters x
letters_same text at w bytes e r x =
    let i : bytes ≡ r.letters = e ∙ row_letters text at w r in
    ap₂ (λ n l. free_letter n l x) (ap length i ∙ r.stands.is.long) i
