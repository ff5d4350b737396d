-- The map's insertion, as the contents by name.
use Rattle.std.proofs.Common.{refl, sym}
use Rattle.enf_io.proofs.Kept.{files_of, held_after_insert, others_after_insert}
use Rattle.enf_io.proofs.kept_files.KeptFiles.put.Goals as goal

pub returns-clause-held : goal.returns-clause-held
returns-clause-held c =
    held_after_insert c.args.name.now c.in_ok-name.name c.args.bytes c.self.inside.files c.insert.new.self c.args.self.now (files_of c.insert.new.self)
    (sym c.self.view_is) refl c.in_ok-name.ensures.ok c.in_ok-insert.ensures.updates

pub returns-clause-others : goal.returns-clause-others
returns-clause-others c =
    others_after_insert c.args.name.now c.in_ok-name.name c.args.bytes c.self.inside.files c.insert.new.self c.args.self.now (files_of c.insert.new.self)
    (sym c.self.view_is) refl c.in_ok-name.ensures.ok c.in_ok-insert.ensures.updates
