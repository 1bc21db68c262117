-- `telling::retrace` meets its contract. Assumes nothing.
use Rattle.telling.proofs.Retracing.{told_paved, retraced_written, retraced_full}
use Rattle.telling.proofs.retrace.Goals as goal

pub write_route-requires : goal.write_route-requires
write_route-requires c =
    let (a, k) = c.requires.walked in
    let e = c.link_back-walk.ensures in
    let n = e.linked a k in
    (n.places, told_paved k e.only n c.args.route.now c.tell-told.ensures c.if-told-eq0.true)

pub returns-then-told-eq0 : goal.returns-then-told-eq0
returns-then-told-eq0 c =
    let e = c.link_back-walk.ensures in
    record {
      told =
          λ a k.
          let n = e.linked a k in
          retraced_written k e.only n c.args.route.now c.tell-told.ensures c.if-told-eq0.true
          (c.write_route.ensures n.places (told_paved k e.only n c.args.route.now c.tell-told.ensures c.if-told-eq0.true));
      only = e.only;
    }

pub returns-else-told-eq0 : goal.returns-else-told-eq0
returns-else-told-eq0 c =
    let e = c.link_back-walk.ensures in
    record {
      told = λ a k. retraced_full k e.only (e.linked a k) c.args.route.now c.tell-told.ensures c.if-told-eq0.false;
      only = e.only;
    }
