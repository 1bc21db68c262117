-- What an offer does to the work space and the tree.
-- Assumes nothing.
use mathlib.Core.Path.{◌≡◌, refl, sym, ◌∙◌, ap}
use mathlib.Core.List.{List}
use Prim.Native.Nat.{ℕ, ◌+◌, ◌*◌, ◌≤◌, ◌<◌}
use native.Mathlib.Omega.{arith}
use lib.ListN.{length, get_or, set}
use lib.Seq.{set-get_or}
use Rattle.tree.specs.Keys.{key_of, nobody, Changed}
use Rattle.places.specs.declared.Trip.{Trip}
use Rattle.places.specs.Columns.{column_of, Label, Settled, Put}
use Rattle.places.specs.Places.{cell_at}
use Rattle.places.proofs.Columns.{only_left, left_same}
use Rattle.offers.specs.Tree.{Right}
use Rattle.offers.specs.Offers.{lowered, Offer}
use Rattle.offers.proofs.Trees.{key_fits, right_label, right_still}
use Rattle.offers.proofs.Entries.{Lowered, lowered_is}

-- An offer that is no news.
pub offer_kept :
    {C : List ℕ} {t : Trip} {W T : List ℕ} {v new : ℕ} → lowered (get_or (column_of (t.k + 2) W Label) v 0) new ≡ get_or (column_of (t.k + 2) W Label) v 0 →
    Right C t W T →
    Offer C t W T v new W T
offer_kept {C} {t} {W} {T} {v} e r = record {
  label = sym (ap (set (column_of (t.k + 2) W Label) v) e ∙ set-get_or (column_of (t.k + 2) W Label) v 0);
  settled = refl;
  left = left_same _ _;
  right = r;
  tree = refl;
}

-- An offer that is news: the label is put, and the key climbs where the place is not settled.
module _ {C : List ℕ} {t : Trip} {W T W' : List ℕ} {v new old best settled : ℕ} (right : Right C t W T) (room : 6 * (t.k + 2) ≤ length W) (h : v < t.k + 2) (pos : 0 < new) (was : old ≡ get_or (column_of (t.k + 2) W Label) v 0) (is : best ≡ lowered old new) (s : Put (t.k + 2) W Label v best W') (flag : settled ≡ get_or (column_of (t.k + 2) W' Settled) v 0) where
  -- the flag was there before
  before : settled ≡ get_or (column_of (t.k + 2) W Settled) v 0
  before = flag ∙ ap (λ (L : List ℕ). get_or L v 0) (s.only.others Settled (λ q. omega arith))

  -- what is put is the lower of the two
  low : Lowered old new best
  low = rw is (lowered_is old new pos)

  -- The offer, with the tree right after it.
  offer_of : {T' : List ℕ} → Right C t W' T' → length T' ≡ length T → Offer C t W T v new W' T'
  offer_of r q = record {
    label = s.here ∙ ap (set (column_of (t.k + 2) W Label) v) (is ∙ ap (λ (x : ℕ). lowered x new) was);
    settled = s.only.others Settled (λ q. omega arith);
    left = only_left (omega arith) s.only;
    right = r;
    tree = q;
  }

  -- The place is not settled.
  module _ {cell key : ℕ} (free : settled ≡ 0) (place : cell ≡ cell_at C t v) (made : key ≡ key_of best cell v) where
    -- Its new key is no more than what its leaf holds.
    pub offer_fits : key ≤ nobody → key ≤ get_or T (t.k + 2 + v) 0
    offer_fits fits =
        let q : key ≡ key_of best (cell_at C t v) v = rw place at made in
        rw q (key_fits right v best h (omega (arith, before)) (λ l. omega (arith, was, low.kept (omega (arith, was)))) (rw q at fits))

    -- With the key in the tree the offer is made.
    pub offer_climbed : {T' : List ℕ} → Changed (t.k + 2) T v key T' → Offer C t W T v new W' T'
    offer_climbed c =
        let q : key ≡ key_of best (cell_at C t v) v = rw place at made in
        offer_of (right_label right room h (omega (arith, before)) low.some s (rw q at c)) c.sized

  -- The place is settled: no key comes into the tree.
  pub offer_settled : (settled ≡ 0 → ⊥) → Offer C t W T v new W' T
  offer_settled done = offer_of (right_still right (omega (arith, before)) s) refl
