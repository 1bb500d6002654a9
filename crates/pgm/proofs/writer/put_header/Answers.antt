use Rattle.pgm.proofs.Writing.{header_put}
use Rattle.pgm.proofs.writer.put_header.Goals as goal

pub returns : goal.returns
returns c =
    header_put c.args.file.now c.args.width c.args.height c.args.blank c.args.feed c.requires.2 c.requires.3
    c.put_bytes.ensures
    c.put_decimal.ensures
    c.put_bytes-2.ensures
    c.put_decimal-2.ensures
    c.put_bytes-3.ensures
