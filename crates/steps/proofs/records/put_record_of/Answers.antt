use Rattle.std.proofs.Common.{Bool, [], ◌∷◌, cond, sym, ap, ◌∙◌, append-nil}
use Rattle.steps.specs.Text.{record_line, lines_of_records}
use Rattle.steps.specs.Inner.{record_in}
use Rattle.steps.proofs.Puts.{put_as, put_none}
use Rattle.steps.proofs.records.put_record_of.Goals as goal

pub returns-then-is_of : goal.returns-then-is_of
unfolding lines_of_records
returns-then-is_of c =
    let e = record_in c.args.e in
    put_as c.put_record.ensures
    (sym (ap (λ (t : Bool). lines_of_records (cond t (e ∷ []) [])) (sym c.is_of.ensures ∙ c.if-is_of.true) ∙ append-nil (record_line e)))

pub returns : goal.returns
unfolding lines_of_records
returns c =
    let e = record_in c.args.e in
    put_as (put_none _ _ c.requires) (sym (ap (λ (t : Bool). lines_of_records (cond t (e ∷ []) [])) (sym c.is_of.ensures ∙ c.if-is_of.false)))
