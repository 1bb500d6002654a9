use Rattle.steps.specs.Text.{ascii, line, heading}
use Rattle.steps.proofs.Puts.{put_then}
use Rattle.steps.proofs.put_heading.Goals as goal

pub returns : goal.returns
unfolding ascii line heading
returns c =
    put_then c.put_bytes-next.ensures
    (put_then c.put_next-next.ensures
    (put_then c.put_bytes-next-2.ensures
    (put_then c.put_next-next-2.ensures
    (put_then c.put_next-next-3.ensures
    (put_then c.put_next-next-4.ensures
    (put_then c.put_next-next-5.ensures
    c.put_byte.ensures))))))
