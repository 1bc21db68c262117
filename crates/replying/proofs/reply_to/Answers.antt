-- `replying::reply_to` meets its contract: the query's answer as a line, or the refusal. Assumes nothing.
use mathlib.Core.Logic.{inl, inr}
use mathlib.Core.Path.{refl}
use native.Mathlib.Omega.{arith}
use Rattle.replying.proofs.Buffers.{put_part}
use Rattle.replying.proofs.reply_to.Goals as goal

pub returns : goal.returns
returns c =
    let p = c.put_reply-n.ensures in
    inl
    (record {
      next = c.in-Some.trip.next;
      end = _;
      is = refl;
      bytes = _;
      reply =
          record {
            x = c.in-Some.trip.start.x;
            y = c.in-Some.trip.start.y;
            u = c.in-Some.trip.goal.x;
            v = c.in-Some.trip.goal.y;
            line = c.in-Some.ensures;
            reply =
                record {
                  route = c.args.route.now;
                  work = c.args.work.now;
                  route_left = c.ask-a.new.route;
                  work_left = c.ask-a.new.work;
                  answer = c.ask-a.result;
                  route_size = c.requires.begins.1.route_size;
                  work_long = c.requires.begins.1.work_long;
                  outcome = c.ask-a.ensures;
                  line = refl;
                };
          };
      line = record { put = put_part c.args.out.now _ c.args.spot.used _ _ _ refl p.put; short = p.short };
    })
