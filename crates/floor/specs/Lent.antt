-- What is said of a floor's width, height and words, said of the floor as it is lent.
use Rattle.std.specs.Prelude.{ℕ, List, ◌≡◌}
use Rattle.floor.specs.declared.lent.Grid.{Grid}

-- what is reckoned from width, height and words
abbrev pub of : {A : Type 0} → (ℕ → ℕ → List ℕ → A) → Grid → A
of f g = f g.w g.h g.words.now

-- what is true of width, height and words
abbrev pub on : {P : Type 1} → (ℕ → ℕ → List ℕ → P) → Grid → P
on P g = P g.w g.h g.words.now

-- these are the floor's width, height and words
pub record IsLent (w h : ℕ) (words : List ℕ) (g : Grid) : Type 0 where
  pub width : g.w ≡ w
  pub height : g.h ≡ h
  pub same : g.words.now ≡ words
