use Rattle.trace_audit.proofs.Vocabulary.{rules, ◌++◌, ◌∷◌, ◌∙◌, [], List, append_assoc, ap, sym, subst, IfOk-weaker, Step, TellsRest, moment_of, guards_at, ResidualCanGoOn, LinksMean, Means, Link}
use Rattle.trace_audit.proofs.Vocabulary.{Residual, the_lemmas}
use Rattle.trace_audit.proofs.ResidualLemmas.{chain_can, chain_means}
use Rattle.trace_audit.proofs.EvaluationLemmas.{tells_as, tells_both, tells_either}
use Rattle.trace_audit.specs.declared.residuals.Residual.TheVariants as stored
use Rattle.trace_audit.proofs.evaluation.+progressing.Goals as goal

pub progress-progress_chain-requires : goal.progress-progress_chain-requires
progress-progress_chain-requires t c =
    let guards = guards_at c.args.now.now.tables.now in (
      search (rules, the_lemmas),
      (
        (chain_can guards c.in-Chain.links).0 (subst (ResidualCanGoOn guards) c.in-Chain.is c.requires.can),
        c.requires.in_time,
      ),
    )

pub progress-returns-in-Chain : goal.progress-returns-in-Chain
progress-returns-in-Chain t c =
    let m = moment_of c.args.now.now in
    let links = c.in-Chain.links in
    let tells : Residual → Residual → Type 0 = λ r rest. TellsRest m (λ (trace : List Step). Means trace m.position r) rest in
    IfOk-weaker c.progress_chain.result _ (tells c.args.rest) (λ rest told. subst (λ r. tells r rest) (sym c.in-Chain.is)
    (tells_as m (λ (trace : List Step). LinksMean trace m.position (Unit {0}) links.items)
    (λ (trace : List Step). Means trace m.position (stored.Chain links)) rest (λ trace is. chain_means trace m.position links) told))
    c.progress_chain.ensures

pub progress_chain-loop-link-preserved-in_ok-rest-in-Both :
    goal.progress_chain-loop-link-preserved-in_ok-rest-in-Both
progress_chain-loop-link-preserved-in_ok-rest-in-Both t c =
    let m = moment_of c.args.now.now in
    let done = c.loop-link.yielded in
    let rest = c.in_ok-rest-in-Both.rest in
    let step = ap (λ l. done ++ l) c.in-Some.ensures.steps.0 in (
      tt,
      tt,
      subst (λ (one : Link). TellsRest m (λ (trace : List Step). LinksMean trace m.position (Unit {0}) (done ++ one ∷ [])) rest) (sym c.in-Both.is)
          (tells_both m done c.in-Both.next c.loop-link.rest c.in_ok-next-in-Both.next rest c.loop-link.invariant.2
          c.in_ok-next-in-Both.ensures c.in_ok-rest-in-Both.ensures),
      c.loop-link.invariant.3 ∙ step ∙ sym (append_assoc done (c.in-Some.link ∷ []) c.next.new.self.rest.items),
    )

pub progress_chain-loop-link-preserved : goal.progress_chain-loop-link-preserved
progress_chain-loop-link-preserved t c =
    let m = moment_of c.args.now.now in
    let done = c.loop-link.yielded in
    let rest = c.in_ok-rest-in-Either.rest in
    let step = ap (λ l. done ++ l) c.in-Some.ensures.steps.0 in (
      tt,
      tt,
      subst (λ (one : Link). TellsRest m (λ (trace : List Step). LinksMean trace m.position (Unit {0}) (done ++ one ∷ [])) rest) (sym c.in-Either.is)
          (tells_either m done c.in-Either.next c.loop-link.rest c.in_ok-next-in-Either.next rest c.loop-link.invariant.2
          c.in_ok-next-in-Either.ensures c.in_ok-rest-in-Either.ensures),
      c.loop-link.invariant.3 ∙ step ∙ sym (append_assoc done (c.in-Some.link ∷ []) c.next.new.self.rest.items),
    )
