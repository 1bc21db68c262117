-- Lengths, their order, the octile distance and the printed figure, as document 01 has them ("Lengths").
-- What is proved of the order is in `Laws.antt`, of the octile distance in `Octile.antt`.
use Rattle.std.specs.Prelude.{ℕ, ◌+◌, ◌*◌, ◌-◌, ◌<◌, ◌≤◌, min, Bool, cond, ltb, ℤ, pos, negsuc}
use Rattle.lengths.specs.declared.Length.{Length}

infixl 60 ◌⊕◌
infix 40 ◌≺◌ ◌≼◌
-- a length: how many straight and how many diagonal steps; a straight and b diagonal ones are worth a + b√2
pub record Len : Type 0 where
  pub straight : ℕ
  pub diagonal : ℕ

-- the length of a straight and b diagonal steps
abbrev pub pair : ℕ → ℕ → Len
pair a b = record { straight = a; diagonal = b }

-- the length of no step
abbrev pub 𝟎 : Len
𝟎 = pair 0 0

-- the steps of x and of y
abbrev pub ◌⊕◌ : Len → Len → Len
x ⊕ y = pair (x.straight + y.straight) (x.diagonal + y.diagonal)

-- What x has over y, squared: (a - c)² + 2 (b - d)² for (a, b) over (c, d). The difference of naturals stops at 0.
-- Why the order of over x y and over y x is that of the values: take from both lengths the steps that they share. Then at most one of
-- the two still has straight steps, say p, and at most one has diagonal steps, say q. If these are two, the values are p against q√2,
-- and the squares p² against 2q². If it is one, the values are p + q√2 against 0, and the squares p² + 2q² against 0.
unfoldable pub over : Len → Len → ℕ
over x y =
    (x.straight - y.straight) * (x.straight - y.straight)
    + 2 * ((x.diagonal - y.diagonal) * (x.diagonal - y.diagonal))

-- x is less than y: a + b√2 < c + d√2
pub record ◌≺◌ (x y : Len) : Type 0 where
  pub less : over x y < over y x

-- x is at most y: a + b√2 ≤ c + d√2
pub record ◌≼◌ (x y : Len) : Type 0 where
  pub most : over x y ≤ over y x

-- the test of x ≺ y
unfoldable pub shorter : Len → Len → Bool
shorter x y = ltb (over x y) (over y x)

-- -1, 0 or 1, as s is less than t, the same or more
abbrev pub sign_of : ℕ → ℕ → ℤ
sign_of s t = cond (ltb s t) (negsuc 0) (cond (ltb t s) (pos 1) (pos 0))

-- -1, 0 or 1, as x is less than y, the same or more
unfoldable pub compare_of : Len → Len → ℤ
compare_of x y = sign_of (over x y) (over y x)

-- the offset of two coordinates, without sign
abbrev pub gap : ℕ → ℕ → ℕ
gap a c = (a - c) + (c - a)

-- the octile distance for the offsets dx and dy: (|dx − dy|, min(dx, dy))
abbrev pub octile_of : ℕ → ℕ → Len
octile_of dx dy = pair (gap dx dy) (min dx dy)

-- the printed figure, which decides no order
abbrev pub figure_of : Len → ℕ
figure_of x = 10000 * x.straight + 14142 * x.diagonal

-- the length that the code's struct holds
abbrev pub len_of : Length → Len
len_of l = pair l.straight l.diagonal
