use Rattle.trace_audit.proofs.Vocabulary.{◌≡◌, ◌<◌, ◌≤◌, ◌∙◌, ◌∷◌, ◌++◌, [], List, length, get_or, take, ap, sym, subst, take_all, take_more, IfOk-weaker, LinksWait, WaitsForEvents, Link}
use Rattle.trace_audit.proofs.WakingLemmas.{chain_stays, failed_stays, links_stay, met_stays, no_link_stays}
use Rattle.trace_audit.specs.declared.residuals.Link.TheVariants as link
use Rattle.trace_audit.proofs.waking.+waking.Goals as goal

pub wakes_of-returns-in-Met : goal.wakes_of-returns-in-Met
wakes_of-returns-in-Met t c =
    subst (λ r. WaitsForEvents r c.never.result.patterns) (sym c.in-Met.is) (met_stays c.never.result.patterns)

pub wakes_of-returns-in-Failed : goal.wakes_of-returns-in-Failed
wakes_of-returns-in-Failed t c =
    subst (λ r. WaitsForEvents r c.never-in-Failed.result.patterns) (sym c.in-Failed.is) (failed_stays c.never-in-Failed.result.patterns)

pub wakes_of-returns-in-Waits : goal.wakes_of-returns-in-Waits
wakes_of-returns-in-Waits t c =
    IfOk-weaker c.wakes_of_waiting.result _ (λ wakes. WaitsForEvents c.args.rest.now wakes.patterns)
    (λ wakes waits. subst (λ r. WaitsForEvents r wakes.patterns) (sym c.in-Waits.is) waits) c.wakes_of_waiting.ensures

pub wakes_of-returns-in-Chain : goal.wakes_of-returns-in-Chain
wakes_of-returns-in-Chain t c =
    IfOk-weaker c.wakes_of_chain.result _ (λ wakes. WaitsForEvents c.args.rest.now wakes.patterns)
    (λ wakes waits. subst (λ r. WaitsForEvents r wakes.patterns) (sym c.in-Chain.is) (chain_stays c.in-Chain.links wakes.patterns waits))
    c.wakes_of_chain.ensures

pub wakes_of_chain-loop-link-init : goal.wakes_of_chain-loop-link-init
wakes_of_chain-loop-link-init t c = no_link_stays c.never-wakes.result.patterns

pub wakes_of_chain-loop-link-preserved : goal.wakes_of_chain-loop-link-preserved
wakes_of_chain-loop-link-preserved t c =
    let links = c.args.links.now.items in
    let all : c.deref-link-items.result.now ≡ links = c.deref-link-items.ensures.value in
    let one = c.link-item.result in
    let k = c.loop-link.link-index in
    let within = subst (λ (l : List Link). k < length l) all c.loop-link-test.true in
    let at = subst (λ (l : List Link). one ≡ get_or l k one) all c.link-item.is in
    subst (λ (l : List Link). LinksWait l c.in_ok-wakes.wakes.patterns)
    (sym (take_more links k one within ∙ ap (λ x. take k links ++ x ∷ []) (sym at)))
    (c.in_ok-wakes.ensures (take k links) c.loop-link.invariant)

pub wakes_of_chain-returns : goal.wakes_of_chain-returns
wakes_of_chain-returns t c =
    let links = c.args.links.now.items in
    let all : c.deref-link-items.result.now ≡ links = c.deref-link-items.ensures.value in
    let k = c.loop-link.link-index in
    subst (λ (l : List Link). LinksWait l c.loop-link.wakes.patterns)
    (take_all k links (subst (λ (l : List Link). length l ≤ k) all c.loop-link-test.false)) c.loop-link.invariant

pub with_link-returns-in_ok-wakes_of-in-Both : goal.with_link-returns-in_ok-wakes_of-in-Both
with_link-returns-in_ok-wakes_of-in-Both t c =
    IfOk-weaker c.either.result _ (λ both. (links : List Link) → LinksWait links c.args.wakes.patterns
    → LinksWait (links ++ c.args.link.now ∷ []) both.patterns)
    (λ both are links wait. subst (λ (one : Link). LinksWait (links ++ one ∷ []) both.patterns) (sym c.in-Both.is)
    (links_stay links (link.Both c.in-Both.rest) c.args.wakes.patterns c.in_ok-wakes_of-in-Both.field-0.patterns both.patterns are
    c.in_ok-wakes_of-in-Both.ensures wait)) c.either.ensures

pub with_link-returns-in_ok-wakes_of-in-Either : goal.with_link-returns-in_ok-wakes_of-in-Either
with_link-returns-in_ok-wakes_of-in-Either t c =
    IfOk-weaker c.either-in-Either.result _ (λ both. (links : List Link) → LinksWait links c.args.wakes.patterns
    → LinksWait (links ++ c.args.link.now ∷ []) both.patterns)
    (λ both are links wait. subst (λ (one : Link). LinksWait (links ++ one ∷ []) both.patterns) (sym c.in-Either.is)
    (links_stay links (link.Either c.in-Either.rest) c.args.wakes.patterns c.in_ok-wakes_of-in-Either.field-0.patterns both.patterns are
    c.in_ok-wakes_of-in-Either.ensures wait)) c.either-in-Either.ensures
