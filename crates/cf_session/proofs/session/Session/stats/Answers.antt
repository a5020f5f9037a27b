use Rattle.std.proofs.Common.{◌≡◌, ◌++◌, map, sym, ◌∙◌, ap, subst}
use Rattle.std.specs.Prelude.{All}
use Rattle.std.proofs.lemmas.List.Elements.{All-append}
use Rattle.cf_model.specs.Patterns.{pattern_of, sizes}
use Rattle.cf_pkg.specs.Packages.{OwnsFunction, meaning}
use Rattle.cf_reference.specs.Replies.{stats_reply}
use Rattle.cf_reference.specs.Carrying.{Goes}
use Rattle.cf_session.specs.Sessions.{state_of}
use Rattle.cf_session.proofs.AnswerFacts.{all-variables, all-functions, stats-goes}
use Rattle.cf_session.proofs.session.Session.stats.Goals as goal
use Rattle.cf_session.proofs.session.Session.stats.Goals.{After-as_slice}

all_are : (c : After-as_slice) → c.as_slice.result.now ≡ map (λ b. b.1) c.self.inside.variables ++ map (λ b. b.1) c.self.inside.functions
all_are c =
    c.as_slice.ensures.value ∙ c.in_ok-extend_from_slice.ensures.items
    ∙ ap (λ fs. fs ++ c.functions-2.result.now) (c.in_ok-all.ensures.items ∙ c.functions.ensures)
    ∙ ap (λ fs. map (λ b. b.1) c.self.inside.variables ++ fs) c.functions-2.ensures

pub live_sizes-requires : goal.live_sizes-requires
live_sizes-requires c = record {
  owned =
      subst (λ fs. All (OwnsFunction c.self.inside.pkg) fs) (sym (all_are c))
      (All-append (OwnsFunction c.self.inside.pkg) (map (λ b. b.1) c.self.inside.variables) (map (λ b. b.1) c.self.inside.functions)
      (all-variables c.self.inside.pkg _ c.self.inside.variables c.self.invariant.positions) (all-functions c.self.inside.pkg c.self.inside.functions c.self.invariant.owned));
}

pub returns-clause-goes : goal.returns-clause-goes
returns-clause-goes c =
    let are =
    c.as_slice.ensures.value ∙ c.in_ok-extend_from_slice.ensures.items
    ∙ ap (λ fs. fs ++ c.functions-2.result.now) (c.in_ok-all.ensures.items ∙ c.functions.ensures)
    ∙ ap (λ fs. map (λ b. b.1) c.self.inside.variables ++ fs) c.functions-2.ensures
    ∙ ap (λ h. map (λ b. b.1) h.variables ++ map (λ b. b.1) h.functions) c.self.view_is in
    stats-goes c.args.self.now c.as_slice.result.now c.in_ok-per_level.per_level c.law.ensures c.requires.set are
    (c.in_ok-per_level.ensures ∙ ap (λ h. sizes (map (λ f. pattern_of (meaning h.pkg f)) c.as_slice.result.now)) c.self.view_is)
    ∙ ap (Goes (state_of c.args.self.now)) (ap (λ n. stats_reply n c.in_ok-per_level.per_level) (c.as_slice.ensures.len ∙ sym c.len.ensures) ∙ sym c.stats_text.ensures)
