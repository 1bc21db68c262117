-- A number has one decimal, and bytes are the decimal of at most one number. Assumes nothing.
use Prim.Native.Nat.{ℕ, zero, suc, ◌+◌, ◌*◌, ◌/◌, ◌%◌, ◌^◌, ◌<◌, ◌≤◌}
use mathlib.Core.List.{List, [], ◌∷◌, ◌++◌}
use mathlib.Core.Path.{◌≡◌, refl, sym, ap, ◌∙◌}
use native.Mathlib.Decide.{dec_lt}
use native.Mathlib.Nat.{pow-suc}
use native.Mathlib.Omega.{arith}
use lib.ListN.{length, get_or, take, drop, length-append, length-take}
use lib.Seq.{take_at, drop_at, take-append-le, take_all}
use Rattle.writing.specs.Numbers.{Decimal, digit, more, Digit, leading, decimal}

-- two lists with equal first parts of one length have equal parts
append_same : (a b x y : List ℕ) → length a ≡ length b → a ++ x ≡ b ++ y → (a ≡ b) × (x ≡ y)
append_same a b x y l e = (
  sym (take_at a x (length a) refl) ∙ ap (take (length a)) e ∙ take_at b y (length a) (sym l),
  sym (drop_at a x (length a) refl) ∙ ap (drop (length a)) e ∙ drop_at b y (length a) (sym l),
)

-- the same where the last part is one byte
last_same : (a b : List ℕ) (x y : ℕ) → a ++ x ∷ [] ≡ b ++ y ∷ [] → (a ≡ b) × (x ≡ y)
last_same a b x y e =
    let p = append_same a b (x ∷ []) (y ∷ []) (omega (arith, simp length-append at (ap length e))) e in
    let q = p.1 in (p.0, cc)

-- each byte is a digit
abbrev pub Digits : List ℕ → Type 0
Digits [] = Unit {0}
Digits (b ∷ bs) = Digit b × Digits bs

-- digits and one digit more are digits
digits_more : (bs : List ℕ) (b : ℕ) → Digits bs → Digit b → Digits (bs ++ b ∷ [])
digits_more [] b p q = (q, tt)
digits_more (x ∷ bs) b p q = (p.0, digits_more bs b p.1 q)

-- a decimal is made of digits
pub all_digits : {n : ℕ} {bytes : List ℕ} → Decimal n bytes → Digits bytes
all_digits (digit l e) = rw e (omega arith, tt)
all_digits (more m d front p l r g e) = rw e (digits_more front (48 + d) (all_digits r) (omega arith))

-- a decimal has a digit
pub some_digit : {n : ℕ} {bytes : List ℕ} → Decimal n bytes → 0 < length bytes
some_digit (digit l e) = rw e (omega arith)
some_digit (more m d front p l r g e) = rw (e, length-append) (omega arith)

-- a decimal with a digit before its last is longer than one digit
longer : (front bytes : List ℕ) (d : ℕ) → 0 < length front → bytes ≡ front ++ d ∷ [] → 1 < length bytes
longer front bytes d l e = rw (e, length-append) (omega arith)

-- bytes are the decimal of at most one number
pub one_number : {n m : ℕ} {bytes others : List ℕ} → Decimal n bytes → Decimal m others → bytes ≡ others → n ≡ m
one_number (digit l e) (digit k f) q = let i = ap (λ bs. get_or bs 0 0) (sym e ∙ q ∙ f) in omega arith
one_number {bytes} (digit l e) (more m d front p k r g f) q = absurd (omega (arith, longer front bytes (48 + d) (some_digit r) (q ∙ f), ap length e))
one_number {others} (more m d front p k r g f) (digit l e) q = absurd (omega (arith, longer front others (48 + d) (some_digit r) (sym q ∙ f), ap length e))
one_number (more m d front p k r g f) (more m' d' front' p' k' r' g' f') q =
    let s = last_same front front' (48 + d) (48 + d') (sym f ∙ q ∙ f') in
    omega (arith, one_number r r' s.0, s.1)

-- a number has at most one decimal
pub one_decimal : {n m : ℕ} {bytes others : List ℕ} → Decimal n bytes → Decimal m others → n ≡ m → bytes ≡ others
one_decimal (digit l e) (digit k f) q = e ∙ ap (λ n. (48 + n) ∷ []) q ∙ sym f
one_decimal (digit l e) (more m d front p k r g f) q = absurd (omega arith)
one_decimal (more m d front p k r g f) (digit l e) q = absurd (omega arith)
one_decimal (more m d front p k r g f) (more m' d' front' p' k' r' g' f') q =
    let a : m ≡ m' = omega arith in
    let b : d ≡ d' = omega arith in
    let c = one_decimal r r' a in cc

-- a decimal that another goes on from is positive, and ten of it are at most the other
pub shorter : {m v : ℕ} {bytes : List ℕ} (k : ℕ) → Decimal m bytes → Decimal v (take k bytes) → k < length bytes → (0 < v) × (10 * v ≤ m)
shorter {bytes} k (digit l e) s h = absurd (omega (arith, some_digit s, length-take k bytes, ap length e))
shorter {m = n} {v} {bytes} k (more m d front p l r g e) s h = by (λ t i. shorter k r t i) (dec_lt k (length front))
  where
    within : k ≤ length front
    within = omega (arith, simp length-append at (ap length e))

    same : take k bytes ≡ take k front
    same = ap (take k) e ∙ take-append-le k front ((48 + d) ∷ []) within

    by : (Decimal v (take k front) → k < length front → (0 < v) × (10 * v ≤ m)) → Dec (k < length front) → (0 < v) × (10 * v ≤ n)
    by ih (yes i) = let a = ih (rw same at s) i in omega arith
    by ih (no i) = let a = one_number s r (same ∙ take_all k front (omega (arith, i))) in omega arith

-- 0 has no leading digits
leading_none : (k : ℕ) → leading k 0 ≡ []
unfolding leading
leading_none zero = refl
leading_none (suc k) = refl

-- a digit more
one_more : (k n : ℕ) → (0 < n / 10 → Decimal (n / 10) (leading k (n / 10))) → Decimal n (leading k (n / 10) ++ (48 + n % 10) ∷ [])
one_more k n r = by (dec_lt 0 (n / 10))
  where
    by : Dec (0 < n / 10) → Decimal n (leading k (n / 10) ++ (48 + n % 10) ∷ [])
    by (yes p) = more {n = n} (n / 10) (n % 10) (leading k (n / 10)) p (omega arith) (r p) (omega arith) refl
    by (no p) =
        let z : n / 10 ≡ 0 = omega (arith, p) in
        let u : n % 10 ≡ n = omega arith in
        let e : leading k (n / 10) ++ (48 + n % 10) ∷ [] ≡ (48 + n) ∷ [] = rw (z, leading_none, u) in
        digit {n = n} (omega arith) e

-- the leading digits of a positive number are its decimal
leading_is : (k n : ℕ) → n ≤ k → 0 < n → Decimal n (leading k n)
unfolding leading
leading_is zero n l p = absurd (omega arith)
leading_is (suc k) zero l p = absurd (omega arith)
leading_is (suc k) (suc n) l p = one_more k (suc n) (λ q. leading_is k (suc n / 10) (omega arith) q)

-- the decimal of a number is one
pub decimal_is : (n : ℕ) → Decimal n (decimal n)
unfolding decimal
decimal_is n = one_more n n (leading_is n (n / 10) (omega arith))

-- a number below 10 ^ (k + 1) has at most k + 1 digits
pub few_digits : {n : ℕ} {bytes : List ℕ} (k : ℕ) → Decimal n bytes → n < 10 ^ suc k → length bytes ≤ suc k
few_digits k (digit l e) h = rw e (omega arith)
few_digits zero (more m d front p l r g e) h = absurd (omega arith)
few_digits (suc k) (more m d front p l r g e) h =
    let a = few_digits k r (omega (arith, pow-suc 10 (suc k))) in
    rw (e, length-append) (omega arith)
