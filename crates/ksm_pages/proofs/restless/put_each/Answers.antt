use Rattle.ksm_pages.proofs.Names.{arith, get_or, Listed}
use Rattle.ksm_pages.proofs.Spots.{put_here, taken_has}
use Rattle.ksm_pages.proofs.restless.put_each.Goals as goal

pub loop-one-preserved : goal.loop-one-preserved
loop-one-preserved c =
    let one : Listed = get_or c.args.added.now c.loop-one.one-index (record { page = 0; row = 0 }) in
    let was = c.loop-one.invariant in
    let put = c.in_ok-insert_at.ensures.put in
    let now = put_here one was.order was.small (c.requires.small.1 c.loop-one.one-index _ (omega (arith, c.loop-one-test.true)))
    (rw c.as_slice.ensures.value at c.place_of-at.ensures) in
    record {
      order = rw put now.order;
      small = rw put now.small;
      all = λ page. grind (arith, put, now.all page, was.all page, taken_has page c.args.added.now c.loop-one.one-index);
    }
