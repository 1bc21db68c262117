-- A piece grows line by line, and ends. Assumes nothing.
use Prim.Native.Nat.{ℕ, ◌+◌, ◌-◌, ◌<◌, ◌≤◌}
use mathlib.Core.Bool.{Bool, true, false, cond, true≢false}
use mathlib.Core.List.{List, [], ◌++◌, append-nil}
use mathlib.Core.Logic.{◌⊎◌, inl, inr, ⊎_elim}
use mathlib.Core.Path.{◌≡◌, refl, sym, ap, subst, ◌∙◌}
use native.Mathlib.Omega.{arith}
use lib.ListN.{length}
use Rattle.writing.specs.Answers.{Put, input_refused}
use Rattle.reading.proofs.Lines.{four_inside}
use Rattle.writing.proofs.Puts.{put_none, put_then, put_same}
use Rattle.opening.specs.Grounds.{Ground}
use Rattle.replying.specs.Replies.{NoTrip, Begins, AnsweredAt, RefusedAt, RepliedTo}
use Rattle.replying.specs.Pieces.{Passed, none, one_more, Ending, unfit, LineLeft, PieceRoom, FinishedTo, PieceMade}
use Rattle.replying.specs.declared.Spot.{Spot}

-- a piece that began at a spot has come to another
pub record Filling (g : Ground) (text : List ℕ) (more : Bool) (from : Spot) (before route work after : List ℕ) (s : Spot) : Type 0 where
  pub bytes : List ℕ
  pub tail : List ℕ
  pub passed : Passed g text from.at from.line s.at s.line bytes
  pub put : Put before after from.used s.used (bytes ++ tail)
  pub started : from.used ≤ length before
  pub inside : s.at ≤ length text
  pub numbered : s.line ≤ s.at + 257
  pub later : from.at ≤ s.at
  pub moved : s.last ≡ false → (s.used ≤ 32576) ⊎ (from.at < s.at)
  pub room : s.last ≡ false → s.used + 64 ≤ 131072
  pub short : s.used ≤ 131072
  pub ended : s.last ≡ true → Ending text more s.at s.line tail
  pub open_tail : s.last ≡ false → tail ≡ []
  pub route_size : length route ≡ 16384
  pub work_long : length work ≡ 12300
  pub out_size : length after ≡ 131072

module _ (g : Ground) (text : List ℕ) (more : Bool) (from : Spot) (before : List ℕ) where
  -- it begins
  pub filling_none : (route work : List ℕ) → Begins text from → PieceRoom route work before from.used → Filling g text more from before route work before from
  filling_none route work b r =
      record {
        bytes = [];
        tail = [];
        passed = none;
        put = put_none before from.used;
        started = omega (arith, r.little, r.out_size);
        inside = b.inside;
        numbered = b.numbered;
        later = omega arith;
        moved = λ _. inl r.little;
        room = λ _. omega (arith, r.little);
        short = omega (arith, r.little);
        ended = λ e. absurd (true≢false (sym e ∙ b.going));
        open_tail = λ _. refl;
        route_size = r.route_size;
        work_long = r.work_long;
        out_size = r.out_size;
      }

  module _ (route work after : List ℕ) (s : Spot) (f : Filling g text more from before route work after s) where
    -- while it goes on nothing but replies stands in it
    bare : s.last ≡ false → Put before after from.used s.used f.bytes
    bare e = put_same (ap (λ t. f.bytes ++ t) (f.open_tail e) ∙ append-nil f.bytes) f.put

    module _ (route' work' after' : List ℕ) (a : length route' ≡ length route) (b : length work' ≡ length work) (c : length after' ≡ length after) (left : LineLeft text s) where
      -- a line that is answered adds its reply
      answered : (r : Spot) → AnsweredAt g text s after after' r → Filling g text more from before route' work' after' r
      answered r p =
          let l = p.reply in
          let i = four_inside text s.at l.x l.y l.u l.v p.next l.line in
          subst (Filling g text more from before route' work' after') (sym p.is)
          (record {
            bytes = f.bytes ++ p.bytes;
            tail = [];
            passed = one_more f.passed l;
            put = put_same (sym (append-nil (f.bytes ++ p.bytes))) (put_then f.started (bare left.going) p.line.put);
            started = f.started;
            inside = i.1;
            numbered = omega (arith, i.0, f.numbered);
            later = omega (arith, i.0, f.later);
            moved = λ _. inr (omega (arith, i.0, f.later));
            room = λ _. omega (arith, p.line.put.ends, p.line.short, left.room);
            short = omega (arith, p.line.put.ends, p.line.short, left.room);
            ended = λ e. absurd (true≢false (sym e));
            open_tail = λ _. refl;
            route_size = a ∙ f.route_size;
            work_long = b ∙ f.work_long;
            out_size = c ∙ f.out_size;
          })

      -- a line that is refused adds the refusal, and is the last
      refused : (r : Spot) → NoTrip text s.at → RefusedAt s after after' r → Filling g text more from before route' work' after' r
      refused r n p =
          subst (Filling g text more from before route' work' after') (sym p.is)
          (record {
            bytes = f.bytes;
            tail = input_refused s.line;
            passed = f.passed;
            put = put_then f.started (bare left.going) p.line.put;
            started = f.started;
            inside = f.inside;
            numbered = f.numbered;
            later = f.later;
            moved = λ e. absurd (true≢false e);
            room = λ e. absurd (true≢false e);
            short = omega (arith, p.line.put.ends, p.line.short, left.room);
            ended = λ _. unfit left.inside n;
            open_tail = λ e. absurd (true≢false e);
            route_size = a ∙ f.route_size;
            work_long = b ∙ f.work_long;
            out_size = c ∙ f.out_size;
          })

      -- it goes on by one line's reply or refusal
      pub filling_more : (r : Spot) → RepliedTo g text s after after' r → Filling g text more from before route' work' after' r
      filling_more r (inl p) = answered r p
      filling_more r (inr p) = refused r p.0 p.1

    -- it is a piece where no line is left for it
    pub piece_of : (after' : List ℕ) (r : Spot) → length before ≡ 131072 → ¬ (LineLeft text s) → FinishedTo text more s after after' r → PieceMade g text more from before after' r
    piece_of after' r long n (inl p) =
        subst (PieceMade g text more from before after') (sym p.is)
        (record {
          bytes = f.bytes;
          tail = f.tail;
          passed = f.passed;
          put = subst (λ l. Put before l from.used s.used (f.bytes ++ f.tail)) (sym p.kept) f.put;
          short = omega (arith, f.short);
          inside = f.inside;
          numbered = f.numbered;
          later = f.later;
          ended = f.ended;
          going = λ e. (
            f.open_tail e,
            ⊎_elim
                (λ t. absurd (true≢false (sym t ∙ e)))
                (λ i. ⊎_elim (λ u. absurd (n (record { going = e; room = u; inside = i }))) (λ m. m) (f.moved e))
                p.reason,
          );
        })
    piece_of after' r long n (inr p) =
        subst (PieceMade g text more from before after') (sym p.is)
        (record {
          bytes = f.bytes;
          tail = p.tail;
          passed = f.passed;
          put = put_then f.started (bare p.going) p.put;
          short = omega (arith, p.put.ends, p.short, f.room p.going);
          inside = f.inside;
          numbered = f.numbered;
          later = f.later;
          ended = λ _. p.ending f.inside;
          going = λ e. absurd (true≢false e);
        })

-- what is left to do of a text at a spot: its bytes, and one step more while the spot is not the last
abbrev pub left_of : List ℕ → Spot → ℕ
left_of text s = length text - s.at + cond s.last 0 1

-- a line's reply leaves less to do
pub step_less : (g : Ground) (text : List ℕ) (s r : Spot) (after after' : List ℕ) → LineLeft text s → RepliedTo g text s after after' r → left_of text r < left_of text s
step_less g text s r after after' left p = subst (λ b. left_of text r < length text - s.at + cond b 0 1) (sym left.going) (by p)
  where
    by : RepliedTo g text s after after' r → left_of text r < length text - s.at + 1
    by (inl q) =
        let l = q.reply in
        let i = four_inside text s.at l.x l.y l.u l.v q.next l.line in
        subst (λ t. left_of text t < length text - s.at + 1) (sym q.is) (omega (arith, i.0, i.1))
    by (inr q) = subst (λ t. left_of text t < length text - s.at + 1) (sym q.1.is) (omega arith)
