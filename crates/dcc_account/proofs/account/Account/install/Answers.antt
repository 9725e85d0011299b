use Rattle.std.proofs.Common.{◌≡◌, ℤ, length, subst, Bool, List, [], ◌∷◌, ◌++◌, reverse, cond, sym, ap, ◌∙◌, arith}
use Rattle.std.specs.Prelude.{vec_len, vec_capacity}
use Rattle.std.proofs.lemmas.Int.{ints}
use Rattle.dcc_act.specs.declared.act.Act.{Act}
use Rattle.dcc_act.specs.declared.entry.Entry.{Entry}
use Rattle.dcc_act.specs.declared.outcome.Outcome.{Outcome}
use Rattle.dcc_model.specs.declared.done.Done.{Done}
use Rattle.dcc_model.specs.Outcomes.{acts, funds, history, with_act}
use Rattle.dcc_state.specs.Known.{changed, funds_after, overrun_with}
use Rattle.dcc_state.specs.OpenSessions.{SessionView, AreOpen}
use Rattle.dcc_account.specs.Accounts.{AccountView}
use Rattle.dcc_account.specs.Prepared.{StepView}
use Rattle.dcc_account.proofs.Steps.{free_is, due_same, backed_by, many_made, as_many, grows_for, room_for, history_more, kept_with, running_with, running_at, acts_with, prepared_at}
use Rattle.dcc_account.proofs.account.Account.install.Goals as goal

pub apply-overrun-requires-clause-backed : goal.apply-overrun-requires-clause-backed
apply-overrun-requires-clause-backed c =
    let own = c.self.inside in
    let is = prepared_at _ _ _ _ c.requires c.self.view_is c.step.view_is in
    let free = free_is c.sessions_hold_what_is_reserved.ensures own.terms own.acts.acts own.outcomes.items own.entries.items own.pool own.overrun own.sessions.items own.due own.indexes c.self.invariant in
    backed_by _ _ _ _ _ _ c.step.inside.change is.judged.backed c.self.invariant.funds_are free c.grow-3.ensures.items

pub apply-overrun-requires-clause-due : goal.apply-overrun-requires-clause-due
apply-overrun-requires-clause-due c =
    due_same c.self.inside.due c.grow-4.new.self c.self.inside.sessions.items _ c.self.invariant.due_are c.grow-4.ensures.deadlines c.grow-3.ensures.items

pub invariant_of-self : goal.invariant_of-self
invariant_of-self c =
    let own = c.self.inside in
    let step = c.step.inside in
    let is = prepared_at _ _ _ _ c.requires c.self.view_is c.step.view_is in
    let all = own.acts.acts in
    let past = history own.terms (reverse all) in
    let done : Done = record { act = step.act; outcome = step.outcome } in
    let new = sym is.judged.new_is ∙ c.if-not-step.false in
    let kept = kept_with own.terms all own.outcomes.items own.entries.items step.entries.items step.act step.outcome c.self.invariant.kept is.judged.outcome_is new is.judged.entries_are c.keys_are_apart.ensures in
    let grown = c.grow-5.ensures.indexed past c.self.invariant.indexed in
    let held = many_made own.terms all own.outcomes.items own.entries.items c.self.invariant.kept in
    let stay = ap (λ (xs : List Act). length xs) c.grow_journal.ensures.acts in
    let indexed = c.add.ensures past done grown c.step.invariant.1 (omega (arith, held, stay)) in
    let sessions = c.grow-3.ensures.items in
    let applied = c.apply-overrun.ensures in
    let are = subst (λ (now : List SessionView). AreOpen own.terms (with_act own.terms (history own.terms (reverse all)) step.act) now) (sym (applied.sessions ∙ ap (changed step.change) sessions)) is.judged.sessions_are in
    let funds_are =
    applied.funds ∙ ap (λ (money : ℤ). funds_after step.change money c.grow-3.new.items.items) c.self.invariant.funds_are
    ∙ ap (funds_after step.change (funds own.terms all)) sessions ∙ sym is.judged.funds_are in
    let more = applied.overrun ∙ ap (overrun_with step.change) sessions in
    let overrun_is = is.judged.overrun_are in
    let before = c.self.invariant.overrun_are in
    let most = c.self.invariant.overrun_is in
    let bound = applied.bound in
    running_at own.terms _ _ _ _ _ _ _ _ _ _ _
    (running_with own.terms all (own.outcomes.items ++ step.outcome ∷ []) (own.entries.items ++ step.entries.items) _ _ _ _ _ done kept are applied.due applied.holds funds_are (omega (arith, ints)) (omega (arith, ints)) indexed
    (history_more own.terms all step.act step.outcome is.judged.outcome_is new))
    (c.push.ensures.acts ∙ ap (λ (xs : List Act). xs ++ step.act ∷ []) c.grow_journal.ensures.acts)
    (c.push_reserved.ensures.items ∙ ap (λ (xs : List Outcome). xs ++ step.outcome ∷ []) c.grow.ensures.items)
    (c.append.ensures ∙ ap (λ (es : List Entry). es ++ step.entries.items) c.grow-2.ensures.items)

pub returns-clause-acts : goal.returns-clause-acts
returns-clause-acts c =
    let own = c.self.inside in
    let step = c.step.inside in
    let all = own.acts.acts in
    let is = prepared_at _ _ _ _ c.requires c.self.view_is c.step.view_is in
    let made = acts_with c.one_more_act.ensures own.terms all own.outcomes.items own.entries.items step.act step.is_new c.self.invariant.kept is.judged.new_is in
    c.push.ensures.acts ∙ ap (λ (xs : List Act). xs ++ step.act ∷ []) c.grow_journal.ensures.acts
    ∙ sym (made ∙ ap (λ (b : Bool). cond b (all ++ step.act ∷ []) all) c.if-not-step.false)
    ∙ ap (λ (a : AccountView). acts a.terms (a.acts ++ step.act ∷ [])) c.self.view_is
    ∙ ap (λ (s : StepView). acts c.args.self.now.terms (c.args.self.now.acts ++ s.act ∷ [])) c.step.view_is

pub grow-requires-clause-fits : goal.grow-requires-clause-fits
grow-requires-clause-fits c =
    let own = c.self.inside in
    let is = prepared_at _ _ _ _ c.requires c.self.view_is c.step.view_is in
    let many = as_many own.terms own.acts.acts own.outcomes.items own.entries.items c.self.invariant.kept in
    let held : vec_len own.outcomes ≡ length own.acts.acts = omega (arith, many) in
    grows_for (λ v. vec_capacity v) c.step.inside.larger.outcomes _ _ _ held (is.fits c.if-not-step.false).outcomes

pub push_reserved-requires : goal.push_reserved-requires
push_reserved-requires c =
    let own = c.self.inside in
    let is = prepared_at _ _ _ _ c.requires c.self.view_is c.step.view_is in
    let many = as_many own.terms own.acts.acts own.outcomes.items own.entries.items c.self.invariant.kept in
    let held : vec_len own.outcomes ≡ length own.acts.acts = omega (arith, many) in
    let stay = ap (λ (xs : List Outcome). length xs) c.grow.ensures.items in
    let more =
    room_for (λ v. vec_capacity v) c.step.inside.larger.outcomes _ _ (vec_capacity own.outcomes) (vec_capacity c.grow.new.items) held (is.fits c.if-not-step.false).outcomes c.grow.ensures.capacity in
    omega (arith, stay, more)
