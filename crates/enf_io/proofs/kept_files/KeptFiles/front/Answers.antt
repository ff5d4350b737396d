-- What the map has under the name is what was told.
use Rattle.std.proofs.Common.{sym, ap, ◌∙◌, arith, take}
use Rattle.std.specs.Prelude.{Some}
use Rattle.enf_io.proofs.Kept.{front_in_map, no_front_in_map}
use Rattle.enf_io.proofs.kept_files.KeptFiles.front.Goals as goal

pub returns-in_ok-from_slice-in-Some : goal.returns-in_ok-from_slice-in-Some
returns-in_ok-from_slice-in-Some c =
    ap Some (c.in_ok-from_slice-in-Some.ensures.items ∙ ap (take c.min.result) c.deref.ensures.value)
    ∙ sym (front_in_map c.args.name.now c.self.inside.files c.args.self.now c.in-Some.bytes.now c.args.most c.min.result
    (sym c.self.view_is) c.in-Some.ensures.value (omega (arith, c.min.ensures, c.len.ensures, c.in-Some.bytes.now.ok)))

pub returns-in-None : goal.returns-in-None
returns-in-None c =
    sym (no_front_in_map c.args.name.now c.self.inside.files c.args.self.now c.args.most (sym c.self.view_is) c.in-None.ensures.value)
