use Rattle.steps.specs.Text.{ascii, line}
use Rattle.steps.proofs.Called.{text_long, text_part}
use Rattle.steps.proofs.Puts.{put_as, put_front}
use Rattle.steps.proofs.put_text.Goals as goal

pub returns-then-len-gt-INPUT : goal.returns-then-len-gt-INPUT
unfolding ascii line
returns-then-len-gt-INPUT c =
    let p = put_front (put_as c.put_bytes.ensures (text_long _ c.if-len-gt-INPUT.true)) in record { length = p.0; text = p.1 }

pub returns-then-len-ne0 : goal.returns-then-len-ne0
unfolding ascii line
returns-then-len-ne0 c =
    let p = put_front (put_as c.put_bytes-then-len-ne0.ensures (text_part _ c.if-len-ne0.true)) in record { length = p.0; text = p.1 }

pub returns : goal.returns
unfolding ascii line
returns c = let p = put_front c.put_report.ensures in record { length = p.0; text = p.1 }
