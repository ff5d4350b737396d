-- What was put under one name, as the contents of all names.
use Rattle.std.proofs.Common.{ap, ◌∙◌}
use Rattle.enf_io.specs.meaning.Files.{FileBytes}
use Rattle.enf_io.specs.machine.CalmDevices.{contents_under}
use Rattle.enf_io.proofs.Kept.{contents_from}
use Rattle.enf_io.proofs.calm_files.CalmFilesFiles.write.Goals as goal

pub returns-clause-contents : goal.returns-clause-contents
returns-clause-contents c =
    let put = c.in_ok-put.ensures in
    contents_from c.args.name.now c.args.bytes.now (contents_under c.args.self.now) (contents_under c.put.new.self)
    (put.held ∙ ap FileBytes c.in_ok-copy.ensures.items) put.others
