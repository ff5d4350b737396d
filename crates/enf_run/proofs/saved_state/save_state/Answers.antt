use Rattle.enf_run.proofs.Vocabulary.{List, ℕ, Err, Ok, subst, ◌∙◌, err_from_is_err_and, WritesFile, IsTextOfLines, lines_of}
use Rattle.enf_run.proofs.SavedStateLemmas.{save_fails}
use Rattle.enf_run.proofs.saved_state.save_state.Goals as goal

pub returns-in_err-write : goal.returns-in_err-write
returns-in_err-write g c =
    let p = err_from_is_err_and c.from_residual-in_err-write.result c.from_residual-in_err-write.ensures.1 in
    let text = c.deref.ensures.value ∙ c.in_ok-text.ensures.text in
    let written = subst (λ (bytes : List ℕ). WritesFile {T = Unit {0}} c.args.file.now bytes
    (Err c.in_err-write.field-0.0) (g.F.Files.seen c.args.files.now) (g.F.Files.seen c.write.new.self)) text
    c.in_err-write.ensures in
    let signature = c.args.sources.signature.now in
    let policy = c.args.sources.policy.now in
    let kept = c.in_ok-snapshot.snapshot in
    rw (p.1, p.2) (save_fails c.args.enforcer.now signature policy c.args.file.now kept c.in_ok-snapshot.ensures.saves
    (λ small. subst (λ (bytes : List ℕ). IsTextOfLines bytes signature policy (lines_of kept)) c.in_ok-text.ensures.text (c.in_ok-text.ensures.form small)) c.in_err-write.field-0.0 _ _ written)

pub returns : goal.returns
returns g c =
    let text = c.deref.ensures.value ∙ c.in_ok-text.ensures.text in
    record {
      kept = c.in_ok-snapshot.snapshot;
      saves = c.in_ok-snapshot.ensures.saves;
      form = λ small. subst (λ (bytes : List ℕ). IsTextOfLines bytes c.args.sources.signature.now
          c.args.sources.policy.now (lines_of c.in_ok-snapshot.snapshot)) c.in_ok-text.ensures.text
          (c.in_ok-text.ensures.form small);
      written = subst (λ (bytes : List ℕ). WritesFile {T = Unit {0}} c.args.file.now bytes (Ok tt) (g.F.Files.seen c.args.files.now) (g.F.Files.seen c.write.new.self)) text c.in_ok-write.ensures;
    }
