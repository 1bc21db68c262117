-- The order of lengths as code tells it, and its laws: a total order, in which only the same counts are equal. Assumes nothing.
use Rattle.std.specs.Prelude.{ℕ, ℤ, ◌≡◌, true, ◌&&◌, ◌==◌, pos, negsuc}
use Rattle.std.specs.declared.cmp.Ordering.{Ordering}
use Rattle.std.specs.declared.cmp.Ordering.TheVariants.{Less, Equal, Greater}
use Rattle.std.specs.Ordering.{MatchOrdering, nat_cmp, int_cmp, is_eq}
use Rattle.std.specs.Cmp.{IsTotalOrder, strict, tied_itself, both_ways}
use Rattle.std.proofs.Common.{refl, sym, ap, subst, le_of_eq, arith}
use Rattle.std.proofs.lemmas.Cmp.{ranked}
use Rattle.std.proofs.lemmas.Bool.Decides.{nat_tests}
use Rattle.lengths.specs.Lengths.{len_of, over, sign_of, compare_of, ◌≺◌}
use Rattle.lengths.specs.Laws.{≺_irrefl, ≺_trans, ≼_antisym}
use Rattle.lengths.specs.declared.Length.{Length}

-- x is less than y, the same or more
abbrev pub order_of : Length → Length → Ordering
order_of x y = nat_cmp (over (len_of x) (len_of y)) (over (len_of y) (len_of x))

-- what is known of each answer, from what is known there
each : {P Q R P' Q' R' : Type 0} (o : Ordering) → (P → P') → (Q → Q') → (R → R') → MatchOrdering o P Q R → MatchOrdering o P' Q' R'
each Less f g h m = f m
each Equal f g h m = g m
each Greater f g h m = h m

-- what each answer says of two lengths
pub ranks : (x y : Length) → MatchOrdering (order_of x y) (len_of x ≺ len_of y) (x ≡ y) (len_of y ≺ len_of x)
ranks x y =
    each (order_of x y) (λ l. record { less = l })
    (λ e. same (≼_antisym (record { most = le_of_eq e }) (record { most = le_of_eq (sym e) }))) (λ l. record { less = l })
    (ranked _ _ (order_of x y) refl)
  where
    same : len_of x ≡ len_of y → x ≡ y
    same e = λ i. record { straight = (e i).straight; diagonal = (e i).diagonal }

-- a total order
pub order_total : IsTotalOrder order_of
order_total = strict (λ x y. len_of x ≺ len_of y) (λ x. ≺_irrefl (len_of x)) (λ x y z. ≺_trans) order_of ranks

-- an answer of `Equal` is for the same length
same_where : (x y : Length) (o : Ordering) → MatchOrdering o (len_of x ≺ len_of y) (x ≡ y) (len_of y ≺ len_of x) → is_eq o ≡ true → x ≡ y
same_where x y Less m e = absurd (cc)
same_where x y Equal m e = m
same_where x y Greater m e = absurd (cc)

-- two lengths are equal where their counts are
pub order_ties : (x y : Length) → (x.straight == y.straight && x.diagonal == y.diagonal) ≡ is_eq (order_of x y)
order_ties x y = both_ways _ _ equal same_counts
  where
    -- where the counts are the same, the answer is `Equal`
    equal : (x.straight == y.straight && x.diagonal == y.diagonal) ≡ true → is_eq (order_of x y) ≡ true
    equal e =
        let p : x.straight ≡ y.straight = grind (arith, nat_tests) in
        let q : x.diagonal ≡ y.diagonal = grind (arith, nat_tests) in
        let same : x ≡ y = λ i. record { straight = p i; diagonal = q i } in
        subst (λ (z : Length). is_eq (order_of x z) ≡ true) same (ap is_eq (tied_itself order_total x))

    -- and where it is, they are
    same_counts : is_eq (order_of x y) ≡ true → (x.straight == y.straight && x.diagonal == y.diagonal) ≡ true
    same_counts e =
        let same : x ≡ y = same_where x y (order_of x y) (ranks x y) e in
        let p : x.straight ≡ y.straight = ap (λ (z : Length). z.straight) same in
        let q : x.diagonal ≡ y.diagonal = ap (λ (z : Length). z.diagonal) same in
        grind (arith, nat_tests)

-- the answer by the number that the comparing call gives
pub order_signs : (s t : ℕ) → int_cmp (sign_of s t) (pos 0) ≡ nat_cmp s t
order_signs s t = grind (arith, nat_tests)

-- the number that C programs get for each answer
abbrev pub signed : Ordering → ℤ
signed Less = negsuc 0
signed Equal = pos 0
signed Greater = pos 1

-- it is the one of the comparing call
pub signed_order : (x y : Length) → signed (order_of x y) ≡ compare_of (len_of x) (len_of y)
unfolding compare_of over
signed_order x y = signs (over (len_of x) (len_of y)) (over (len_of y) (len_of x))
  where
    signs : (s t : ℕ) → signed (nat_cmp s t) ≡ sign_of s t
    signs s t = grind (arith, nat_tests)
