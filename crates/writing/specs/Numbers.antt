-- Decimal numbers as bytes. A byte is a number, and the digit d is the byte 48 + d.
use Rattle.std.specs.Prelude.{ℕ, zero, suc, ◌+◌, ◌*◌, ◌/◌, ◌%◌, ◌<◌, ◌≤◌, ◌≡◌, List, [], ◌∷◌, ◌++◌}

-- Bytes are the decimal of a number, without leading zeros: one digit, or the decimal of a positive number and one more digit.
pub data Decimal : ℕ → List ℕ → Type 0 where
  digit : {n : ℕ} {bytes : List ℕ} → n < 10 → bytes ≡ (48 + n) ∷ [] → Decimal n bytes
  more : {n : ℕ} {bytes : List ℕ} (m d : ℕ) (front : List ℕ) → 0 < m → d < 10 → Decimal m front → n ≡ 10 * m + d → bytes ≡ front ++ (48 + d) ∷ [] → Decimal n bytes

-- the digits of a number, none for 0; the first argument only bounds their count
unfoldable pub leading : ℕ → ℕ → List ℕ
leading zero n = []
leading (suc k) zero = []
leading (suc k) (suc n) = leading k (suc n / 10) ++ (48 + suc n % 10) ∷ []

-- the decimal of a number (the law `decimal_is`: it is one, and by `one_decimal` the only one)
unfoldable pub decimal : ℕ → List ℕ
decimal n = leading n (n / 10) ++ (48 + n % 10) ∷ []

-- a byte is a digit
abbrev pub Digit : ℕ → Type 0
Digit b = (48 ≤ b) × (b < 58)
