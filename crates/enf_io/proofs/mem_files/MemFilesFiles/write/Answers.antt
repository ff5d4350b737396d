-- What was put under one name, as the contents of all names.
use Rattle.std.proofs.Common.{ap, ◌∙◌}
use Rattle.enf_io.specs.meaning.Files.{FileBytes, with_contents}
use Rattle.enf_io.specs.machine.KeptFiles.{contents_in}
use Rattle.enf_io.proofs.Kept.{contents_from}
use Rattle.enf_io.proofs.mem_files.MemFilesFiles.write.Goals as goal

pub returns-clause-contents : goal.returns-clause-contents
returns-clause-contents c =
    let put = c.in_ok-put.ensures in
    contents_from c.args.name.now c.args.bytes.now (contents_in c.self.inside.files) (contents_in c.put.new.self)
    (put.held ∙ ap FileBytes c.in_ok-copy.ensures.items) put.others
    ∙ ap (λ x. with_contents c.args.name.now (FileBytes c.args.bytes.now) (contents_in x.files)) (c.self.view_is ∙ c.begin_call.ensures.after)
