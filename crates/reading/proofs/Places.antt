-- What stands at a place of a text: one byte more, one form after another, and that it stands there once. Assumes nothing.
use Prim.Native.Nat.{ℕ, suc, ◌+◌, ◌<◌, ◌≤◌}
use mathlib.Core.List.{List, [], ◌∷◌, ◌++◌, append_assoc}
use mathlib.Core.Path.{◌≡◌, refl, sym, ap, ap₂, ◌∙◌}
use native.Mathlib.Nat.{add-zero}
use native.Mathlib.Omega.{arith}
use lib.ListN.{length, get_or, drop, length-append, length-drop}
use lib.Seq.{drop_at, drop-drop, drop-cons, get_or-drop}
use Rattle.reading.specs.Lines.{At, Then}

-- what follows is the text from `next` on
pub at_rest : {Is : List ℕ → Type 0} (text : List ℕ) (at next : ℕ) (a : At Is text at next) → a.rest ≡ drop next text
at_rest text at next a =
    sym (drop_at a.line a.rest (length a.line) refl)
    ∙ ap (drop (length a.line)) (sym a.split)
    ∙ drop-drop (length a.line) at text
    ∙ ap (λ n. drop n text) (sym a.ends)

-- no bytes stand at each place
abbrev pub at_none : (text : List ℕ) (at : ℕ) → At (λ l. l ≡ []) text at at
at_none text at = record { line = []; rest = drop at text; is = refl; split = refl; ends = sym (add-zero at) }

-- one byte more
pub at_byte : {Is Next : List ℕ → Type 0} (text : List ℕ) (at next : ℕ) (a : At Is text at next) → next < length text → Next (a.line ++ get_or text next 0 ∷ []) → At Next text at (next + 1)
at_byte text at next a l n =
    record {
      line = a.line ++ get_or text next 0 ∷ [];
      rest = drop (suc next) text;
      is = n;
      split = rw append_assoc (a.split ∙ ap (λ r. a.line ++ r) (at_rest text at next a ∙ drop-cons text next 0 l));
      ends = rw length-append (omega (arith, a.ends));
    }

-- the byte that a text has where its rest begins with it
pub first_byte : (text : List ℕ) (next b : ℕ) (tail : List ℕ) → drop next text ≡ b ∷ tail → (next < length text) × (get_or text next 0 ≡ b)
first_byte text next b tail e = (
  omega (arith, length-drop next text, ap length e),
  ap (λ n. get_or text n 0) (sym (add-zero next)) ∙ sym (get_or-drop next text 0 0) ∙ ap (λ l. get_or l 0 0) e,
)

-- bytes end after they begin, and within the text
pub at_inside : {Is : List ℕ → Type 0} (text : List ℕ) (at next : ℕ) (a : At Is text at next) → 0 < length a.line → (at < next) × (next ≤ length text)
at_inside text at next a l = omega (arith, a.ends, length-drop at text, simp length-append at (ap length a.split))

module _ {First Second : List ℕ → Type 0} (text : List ℕ) (at : ℕ) where
  -- one form and then another
  pub at_then : (mid next : ℕ) → At First text at mid → At Second text mid next → At (Then First Second) text at next
  at_then mid next a b =
      record {
        line = a.line ++ b.line;
        rest = b.rest;
        is = record { front = a.line; back = b.line; first = a.is; second = b.is; joined = refl };
        split = rw append_assoc (a.split ∙ ap (λ r. a.line ++ r) (at_rest text at mid a ∙ b.split));
        ends = rw length-append (omega (arith, a.ends, b.ends));
      }

  -- and taken apart
  pub at_parts : (next : ℕ) → At (Then First Second) text at next → (mid : ℕ) × At First text at mid × At Second text mid next
  at_parts next a =
      let i = a.is in
      let one : At First text at (at + length i.front)
      = record { line = i.front; rest = i.back ++ a.rest; is = i.first; split = a.split ∙ ap (λ l. l ++ a.rest) i.joined ∙ append_assoc i.front i.back a.rest; ends = refl } in (
        at + length i.front,
        one,
        record { line = i.back; rest = a.rest; is = i.second; split = sym (at_rest text at (at + length i.front) one); ends = omega (arith, a.ends, ap length i.joined, length-append i.front i.back) },
      )

-- at a place stands at most one thing of a form, with one end
abbrev pub Once : (A : Type 0) → (A → List ℕ → Type 0) → Type 0
Once A Is = (text : List ℕ) (at : ℕ) (a b : A) (next other : ℕ) → At (Is a) text at next → At (Is b) text at other → (a ≡ b) × (next ≡ other)

-- two forms, one after the other
abbrev pub Both : {A B : Type 0} → (A → List ℕ → Type 0) → (B → List ℕ → Type 0) → A × B → List ℕ → Type 0
Both P Q p = Then (P p.0) (Q p.1)

module _ {A B : Type 0} (P : A → List ℕ → Type 0) (Q : B → List ℕ → Type 0) where
  -- forms that stand at most once stand so after one another
  pub both_once : Once A P → Once B Q → Once (A × B) (Both P Q)
  both_once u v text at a b next other p q =
      let s = at_parts text at next p in
      let t = at_parts text at other q in
      let e = u text at a.0 b.0 s.0 t.0 s.1 t.1 in
      let f = v text t.0 a.1 b.1 next other (rw e.1 at s.2) t.2 in
      (ap₂ (λ x y. (x, y)) e.0 f.0, f.1)

  -- where the first is missing, the two are missing
  pub no_first : (text : List ℕ) (at : ℕ) → ((a : A) (next : ℕ) → ¬ (At (P a) text at next)) → (p : A × B) (next : ℕ) → ¬ (At (Both P Q p) text at next)
  no_first text at n p next a = let s = at_parts text at next a in n p.0 s.0 s.1

  -- where the second is missing after the first, the two are missing
  pub no_second : Once A P → (text : List ℕ) (at mid : ℕ) (a : A) → At (P a) text at mid → ((b : B) (next : ℕ) → ¬ (At (Q b) text mid next)) → (p : A × B) (next : ℕ) → ¬ (At (Both P Q p) text at next)
  no_second u text at mid a f n p next b =
      let s = at_parts text at next b in
      let e = u text at p.0 a s.0 mid s.1 f in
      n p.1 next (rw e.1 at s.2)
