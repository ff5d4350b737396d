use Rattle.enf_run.proofs.Vocabulary.{List, ℕ, ◌++◌, ap, codes, decimal, sym, subst, LogRefusal, text_of_log_refusal, WritesText}
use Rattle.enf_run.proofs.refusals.write_log_refusal.Goals as goal

-- what is said of the record with a number
abbrev line : ℕ → LogRefusal → List ℕ
line number why = codes "record " ++ decimal number ++ codes ": " ++ text_of_log_refusal why ++ codes "\n"

pub returns-in-UnknownName : goal.returns-in-UnknownName
returns-in-UnknownName g c =
    subst (λ (t : List ℕ). WritesText t c.write_record-in-UnknownName.result (g.R.Sink.seen c.args.report.now) (g.R.Sink.seen c.write_record-in-UnknownName.new.report))
    (sym (ap (line c.args.number) c.in-UnknownName.is)) c.write_record-in-UnknownName.ensures

pub returns-in-TimeTooLarge : goal.returns-in-TimeTooLarge
returns-in-TimeTooLarge g c =
    subst (λ (t : List ℕ). WritesText t c.write_whole_record-in-TimeTooLarge.result (g.R.Sink.seen c.args.report.now) (g.R.Sink.seen c.write_whole_record-in-TimeTooLarge.new.report))
    (sym (ap (line c.args.number) c.in-TimeTooLarge.is)) c.write_whole_record-in-TimeTooLarge.ensures
