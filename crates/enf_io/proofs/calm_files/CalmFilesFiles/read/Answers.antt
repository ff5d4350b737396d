-- A read gives the front of what is there, and a miss is counted.
use Rattle.std.proofs.Common.{sym, ap, ◌∙◌}
use Rattle.std.specs.Option.{option_map}
use Rattle.enf_io.specs.machine.KeptFiles.{contents_in, front_of}
use Rattle.enf_io.proofs.Kept.{ReadsFile-found, ReadsFile-missed}
use Rattle.enf_io.proofs.calm_files.CalmFilesFiles.read.Goals as goal

pub returns-in-Some-clause-seen : goal.returns-in-Some-clause-seen
returns-in-Some-clause-seen c =
    ReadsFile-found c.args.name.now c.args.self.now c.in-Some.front c.args.most
    (sym (ap (option_map (λ v. v.items)) c.in-Some.is) ∙ c.in_ok-front.ensures
    ∙ ap (λ x. front_of c.args.most (contents_in x.files c.args.name.now)) c.self.view_is)

pub returns-in_ok-note_miss-in-None-clause-seen :
    goal.returns-in_ok-note_miss-in-None-clause-seen
returns-in_ok-note_miss-in-None-clause-seen c =
    ReadsFile-missed c.args.name.now c.args.self.now c.note_miss.new.self c.args.most
    (sym (ap (option_map (λ v. v.items)) c.in-None.is) ∙ c.in_ok-front.ensures
    ∙ ap (λ x. front_of c.args.most (contents_in x.files c.args.name.now)) c.self.view_is)
    c.in_ok-note_miss-in-None.ensures.files c.in_ok-note_miss-in-None.ensures.missed
