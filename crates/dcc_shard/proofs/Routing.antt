-- The accounts of shards as those of one, and a step of one of them.
use Rattle.std.proofs.Common.{◌≡◌, ◌≢◌, ℕ, zero, suc, ◌+◌, ◌<◌, ◌≤◌, ◌==◌, Bool, true, false, cond, List, [], ◌∷◌, ◌++◌, filter, length, get_or, set, Option, Some, None, refl, sym, ap, subst, ◌∙◌, arith, inl, inr, true≢false}
use Rattle.std.specs.Prelude.{sum}
use Rattle.std.proofs.Math.Nat.{mod-lt}
use Rattle.std.proofs.lemmas.Bool.{cases_Bool, false_from_ne_true, eqb-true, eq-eqb}
use Rattle.std.proofs.lemmas.List.{length-set, get_or-set_same, get_or-set_other, get_or_default}
use Rattle.dcc_tariff.specs.Terms.{TermsView}
use Rattle.dcc_message.specs.declared.identity.Identity.{Identity}
use Rattle.dcc_act.specs.declared.act.Act.{Act}
use Rattle.dcc_act.specs.declared.sub.Sub.{Sub}
use Rattle.dcc_act.specs.Subs.{same_sub, SameAreEqual}
use Rattle.dcc_account.specs.declared.account.Account.{Account}
use Rattle.dcc_model.specs.Outcomes.{acts}
use Rattle.dcc_model.specs.Laws.{ActsAreActs}
use Rattle.dcc_message.specs.HeaderView.{HeaderView}
use Rattle.dcc_shard.specs.Answers.{IsAnswer, IsTold, IsExpired}
use Rattle.dcc_shard.specs.declared.answers.RequestAnswer.{RequestAnswer}
use Rattle.dcc_shard.specs.declared.answers.TopUpAnswer.{TopUpAnswer}
use Rattle.dcc_shard.specs.declared.answers.ExpiryAnswer.{ExpiryAnswer}
use Rattle.dcc_shard.specs.Shards.{ShardView, account_in, held, held_after, AreOwn, IsStep}
use Rattle.dcc_shard.specs.Stored.{StoredView}
use Rattle.dcc_shard.specs.Routes.{shard_of, IsPartStep}
use Rattle.dcc_shard.specs.inner.Routed.{rows_from, as_one, AreShards}
use Rattle.dcc_shard.proofs.Subs.{one_or_other}
use Rattle.dcc_shard.proofs.BookRows.{Rows, acts_held}

-- the account among the rows that pass, where the subscriber passes, and none where it doesn't
account_kept : SameAreEqual → (keeps : Sub → Bool) (rows : Rows) (sub : Sub) → account_in (filter (λ row. keeps row.0) rows) sub ≡ cond (keeps sub) (account_in rows sub) None
account_kept same keeps [] sub = elim (cases_Bool (keeps sub)) [ inl t ↦ rw t refl | inr f ↦ rw f refl ]
account_kept same keeps (row ∷ rows) sub =
    let behind = account_kept same keeps rows sub in
    elim (cases_Bool (same_sub sub row.0)) [
      | inl t ↦
          let e : sub ≡ row.0 = (same sub row.0).0 t in
          elim (cases_Bool (keeps row.0)) [
            | inl k ↦ rw (k, t, ap keeps e ∙ k) refl
            | inr n ↦ rw (n, behind, ap keeps e ∙ n) refl
          ]
      | inr f ↦
          elim (cases_Bool (keeps row.0)) [
            | inl k ↦ rw (k, f, behind) refl
            | inr n ↦ rw (n, behind, f) refl
          ]
    ]

-- the first of two that is there
abbrev either : Option Account → Option Account → Option Account
either None other = other
either (Some account) other = Some account

either_none : (found : Option Account) → either found None ≡ found
either_none None = refl
either_none (Some account) = refl

account_join : (xs ys : Rows) (sub : Sub) → account_in (xs ++ ys) sub ≡ either (account_in xs sub) (account_in ys sub)
account_join [] ys sub = refl
account_join (row ∷ xs) ys sub =
    elim (cases_Bool (same_sub sub row.0)) [
      | inl t ↦ rw t refl
      | inr f ↦ rw f (account_join xs ys sub)
    ]

-- of a subscriber that belongs before them shards have no account
account_before : {R : Type 0} → SameAreEqual → (count i : ℕ) (shards : List (StoredView R)) (sub : Sub) → shard_of sub count < i → account_in (rows_from count i shards) sub ≡ None
account_before same count i [] sub before = refl
account_before same count i (one ∷ more) sub before =
    let mine = λ (s : Sub). shard_of s count == i in
    let not_mine : mine sub ≡ false = false_from_ne_true (mine sub) (λ t. let e = eqb-true (shard_of sub count) i t in omega (arith, e, before)) in
    let here : account_in (filter (λ row. mine row.0) one.shard.rows) sub ≡ None = account_kept same mine one.shard.rows sub ∙ rw not_mine refl in
    account_join (filter (λ row. mine row.0) one.shard.rows) (rows_from count (i + 1) more) sub ∙ rw here (account_before same count (i + 1) more sub (omega (arith, before)))

-- of any other its own shard has it
account_from : {R : Type 0} → SameAreEqual → (count i n : ℕ) (shards : List (StoredView R)) (none : StoredView R) (sub : Sub) → shard_of sub count ≡ i + n → n < length shards
    → account_in (rows_from count i shards) sub ≡ account_in (get_or shards n none).shard.rows sub
account_from same count i n [] none sub is below = absurd (omega (arith, below))
account_from same count i zero (one ∷ more) none sub is below =
    let mine = λ (s : Sub). shard_of s count == i in
    let is_mine : mine sub ≡ true = eq-eqb (shard_of sub count) i (omega (arith, is)) in
    let here : account_in (filter (λ row. mine row.0) one.shard.rows) sub ≡ account_in one.shard.rows sub = account_kept same mine one.shard.rows sub ∙ rw is_mine refl in
    account_join (filter (λ row. mine row.0) one.shard.rows) (rows_from count (i + 1) more) sub
    ∙ rw (account_before same count (i + 1) more sub (omega (arith, is))) (either_none _ ∙ here)
account_from same count i (suc n) (one ∷ more) none sub is below =
    let mine = λ (s : Sub). shard_of s count == i in
    let not_mine : mine sub ≡ false = false_from_ne_true (mine sub) (λ t. let e = eqb-true (shard_of sub count) i t in omega (arith, e, is)) in
    let here : account_in (filter (λ row. mine row.0) one.shard.rows) sub ≡ None = account_kept same mine one.shard.rows sub ∙ rw not_mine refl in
    account_join (filter (λ row. mine row.0) one.shard.rows) (rows_from count (i + 1) more) sub
    ∙ rw here (account_from same count (i + 1) n more none sub (omega (arith, is)) (omega (arith, below)))

-- what is held for a subscriber is what its own shard holds
pub held_where_kept : {R : Type 0} → SameAreEqual → (terms : TermsView) (identity : Identity) (shards : List (StoredView R)) (none : StoredView R) (sub : Sub) → shard_of sub (length shards) < length shards
    → held (as_one terms identity shards) sub ≡ held (get_or shards (shard_of sub (length shards)) none).shard sub
held_where_kept same terms identity shards none sub below =
    ap acts_held (account_from same (length shards) 0 (shard_of sub (length shards)) shards none sub (omega arith) below)

-- one shard's step is that of all as one
pub step_of_one : {R : Type 0} → SameAreEqual → (terms : TermsView) (identity : Identity) (shards : List (StoredView R)) (one : StoredView R) (none : StoredView R) (judged : Bool) (sub : Sub) (act : Act)
    → ((s : Sub) → shard_of s (length shards) < length shards)
    → (get_or shards (shard_of sub (length shards)) none).shard.terms ≡ terms
    → IsStep (get_or shards (shard_of sub (length shards)) none).shard one.shard judged sub act
    → IsStep (as_one terms identity shards) (as_one terms identity (set shards (shard_of sub (length shards)) one)) judged sub act
step_of_one {R} same terms identity shards one none judged sub act below terms_are step =
    let i = shard_of sub (length shards) in
    let new = set shards i one in
    let many : length new ≡ length shards = length-set shards i one in
    let below_new = λ (s : Sub). subst (λ (n : ℕ). shard_of s n < n) (sym many) (below s) in
    let held_new = λ (s : Sub). held_where_kept same terms identity new none s (below_new s) ∙ ap (λ (n : ℕ). held (get_or new (shard_of s n) none).shard s) many in
    record {
      own = held_new sub ∙ ap (λ (v : StoredView R). held v.shard sub) (get_or-set_same shards i one none (below sub)) ∙ step.own
          ∙ ap (λ (t : TermsView). held_after t judged (held (get_or shards i none).shard sub) act) terms_are
          ∙ ap (λ (xs : List Act). held_after terms judged xs act) (sym (held_where_kept same terms identity shards none sub (below sub)));
      others = λ other apart. held_new other ∙ elim (cases_Bool (shard_of other (length shards) == i)) [
        | inl t ↦
            let e = eqb-true (shard_of other (length shards)) i t in
            ap (λ (n : ℕ). held (get_or new n none).shard other) e ∙ ap (λ (v : StoredView R). held v.shard other) (get_or-set_same shards i one none (below sub)) ∙ step.others other apart
            ∙ ap (λ (n : ℕ). held (get_or shards n none).shard other) (sym e) ∙ sym (held_where_kept same terms identity shards none other (below other))
        | inr f ↦
            ap (λ (v : StoredView R). held v.shard other) (get_or-set_other shards i (shard_of other (length shards)) one none (λ e. let t = eq-eqb (shard_of other (length shards)) i e in absurd (true≢false (sym t ∙ f))))
            ∙ sym (held_where_kept same terms identity shards none other (below other))
      ];
      terms = refl;
      identity = refl;
    }

pub is_below : {R : Type 0} (shards : List (StoredView R)) → 1 ≤ length shards → (sub : Sub) → shard_of sub (length shards) < length shards
is_below shards some sub = mod-lt (sub.kind + sum sub.name) (omega (arith, some))

pub own_as_one : {R : Type 0} → SameAreEqual → (terms : TermsView) (identity : Identity) (shards : List (StoredView R)) → 1 ≤ length shards
    → ((i : ℕ) (none : StoredView R) → i < length shards → (get_or shards i none).shard.terms ≡ terms)
    → ((i : ℕ) (none : StoredView R) → i < length shards → AreOwn (get_or shards i none).shard) → AreOwn (as_one terms identity shards)
own_as_one same terms identity [] some terms_are own sub = absurd (omega (arith, some))
own_as_one {R} same terms identity (one ∷ more) some terms_are own sub =
    let shards = one ∷ more in
    let i = shard_of sub (length shards) in
    let below = is_below shards some sub in
    let is : held (as_one terms identity shards) sub ≡ held (get_or shards i one).shard sub = held_where_kept same terms identity shards one sub below in
    let P : TermsView → Type 0 = λ t. acts t (held (get_or shards i one).shard sub) ≡ held (get_or shards i one).shard sub in
    let there = subst P (terms_are i one below) (own i one below sub) in
    let Q : List Act → Type 0 = λ xs. acts terms xs ≡ xs in
    subst Q (sym is) there

-- what one shard answers is what all as one do
pub answer_of_one : (a b : ShardView) (sub : Sub) (act : Act) (header : HeaderView) (proxies : List ℕ) (answer : RequestAnswer) → a.terms ≡ b.terms → a.identity ≡ b.identity → held a sub ≡ held b sub
    → IsAnswer a sub act header proxies answer → IsAnswer b sub act header proxies answer
answer_of_one a b sub act header proxies answer terms identity holds is = rw (← terms, ← identity, ← holds) is

pub told_of_one : (a b : ShardView) (sub : Sub) (moment ticket amount : ℕ) (answer : TopUpAnswer) → a.terms ≡ b.terms → held a sub ≡ held b sub
    → IsTold a sub moment ticket amount answer → IsTold b sub moment ticket amount answer
told_of_one a b sub moment ticket amount answer terms holds is = rw (← terms, ← holds) is

pub expired_of_one : (a b : ShardView) (sub : Sub) (moment : ℕ) (answer : ExpiryAnswer) → a.terms ≡ b.terms → held a sub ≡ held b sub → IsExpired a sub moment answer → IsExpired b sub moment answer
expired_of_one a b sub moment answer terms holds is = rw (← terms, ← holds) is

own_after : ActsAreActs → (terms : TermsView) (before after : List Act) (judged : Bool) (act : Act) → acts terms before ≡ before → after ≡ held_after terms judged before act → acts terms after ≡ after
own_after law terms before after true act own is = rw is (law terms (before ++ act ∷ []))
own_after law terms before after false act own is = rw is own

-- after a step they are shards as before
pub shards_after : {R : Type 0} → SameAreEqual → ActsAreActs → (terms : TermsView) (identity : Identity) (shards : List (StoredView R)) (one none : StoredView R) (judged : Bool) (sub : Sub) (act : Act)
    → AreShards terms identity shards → one.shard.terms ≡ terms → one.shard.identity ≡ identity
    → ((other : Sub) → other ≢ sub → held one.shard other ≡ held (get_or shards (shard_of sub (length shards)) none).shard other)
    → IsStep (as_one terms identity shards) (as_one terms identity (set shards (shard_of sub (length shards)) one)) judged sub act
    → AreShards terms identity (set shards (shard_of sub (length shards)) one)
shards_after {R} same law terms identity shards one none judged sub act are terms_are identity_is stays_in step =
    let i = shard_of sub (length shards) in
    let new = set shards i one in
    let many : length new ≡ length shards = length-set shards i one in
    record {
      some = omega (arith, many, are.some);
      most = omega (arith, many, are.most);
      terms_are = λ k d below. elim (cases_Bool (k == i)) [
        | inl t ↦ (let e = eqb-true k i t in ap (λ (n : ℕ). (get_or new n d).shard.terms) e ∙ ap (λ (v : StoredView R). v.shard.terms) (get_or-set_same shards i one d (is_below shards are.some sub)) ∙ terms_are)
        | inr f ↦ ap (λ (v : StoredView R). v.shard.terms) (get_or-set_other shards i k one d (λ e. absurd (true≢false (sym (eq-eqb k i e) ∙ f)))) ∙ are.terms_are k d (omega (arith, many, below))
      ];
      identity_is = λ k d below. elim (cases_Bool (k == i)) [
        | inl t ↦ (let e = eqb-true k i t in ap (λ (n : ℕ). (get_or new n d).shard.identity) e ∙ ap (λ (v : StoredView R). v.shard.identity) (get_or-set_same shards i one d (is_below shards are.some sub)) ∙ identity_is)
        | inr f ↦ ap (λ (v : StoredView R). v.shard.identity) (get_or-set_other shards i k one d (λ e. absurd (true≢false (sym (eq-eqb k i e) ∙ f)))) ∙ are.identity_is k d (omega (arith, many, below))
      ];
      own = λ other. elim (one_or_other same other sub) [
        | inl e ↦ (let Q : Sub → Type 0 = λ s. acts terms (held (as_one terms identity new) s) ≡ held (as_one terms identity new) s in subst Q (sym e) (own_after law terms (held (as_one terms identity shards) sub) (held (as_one terms identity new) sub) judged act (are.own sub) step.own))
        | inr apart ↦ (let stays = step.others other apart in rw stays (are.own other))
      ];
      placed = λ k d other below holds. elim (cases_Bool (k == i)) [
        | inl t ↦
            let e = eqb-true k i t in
            let here : get_or new k d ≡ one = ap (λ (n : ℕ). get_or new n d) e ∙ get_or-set_same shards i one d (is_below shards are.some sub) in
            elim (one_or_other same other sub) [
              | inl s ↦ ap (λ (x : Sub). shard_of x (length new)) s ∙ ap (shard_of sub) many ∙ sym e
              | inr apart ↦
                  ap (shard_of other) many
                  ∙ are.placed i none other (is_below shards are.some sub) (λ empty. holds (ap (λ (v : StoredView R). held v.shard other) here ∙ stays_in other apart ∙ empty)) ∙ sym e
            ]
        | inr f ↦
            let there : get_or new k d ≡ get_or shards k d = get_or-set_other shards i k one d (λ e. absurd (true≢false (sym (eq-eqb k i e) ∙ f))) in
            ap (shard_of other) many ∙ are.placed k d other (omega (arith, many, below)) (λ empty. holds (ap (λ (v : StoredView R). held v.shard other) there ∙ empty))
      ];
    }

-- all shards as one after a step of one of them
pub record AreAfter {R : Type 0} (terms : TermsView) (identity : Identity) (shards new : List (StoredView R)) (judged : Bool) (sub : Sub) (act : Act) : Type 0 where
  pub are : AreShards terms identity new
  pub step : IsStep (as_one terms identity shards) (as_one terms identity new) judged sub act
  pub parts : IsPartStep shards new judged sub act

-- the shard of a subscriber, which stands at this index, as all of them
pub record IsAtShard {R : Type 0} (terms : TermsView) (identity : Identity) (shards : List (StoredView R)) (row : StoredView R) (sub : Sub) : Type 0 where
  pub terms_are : row.shard.terms ≡ terms
  pub identity_is : row.shard.identity ≡ identity
  pub held_is : held row.shard sub ≡ held (as_one terms identity shards) sub

pub at_shard : {R : Type 0} → SameAreEqual → (terms : TermsView) (identity : Identity) (shards : List (StoredView R)) (i : ℕ) (row : StoredView R) (sub : Sub) → AreShards terms identity shards
    → i ≡ shard_of sub (length shards) → row ≡ get_or shards i row → IsAtShard terms identity shards row sub
at_shard {R} same terms identity shards i row sub are i_is is =
    let below = is_below shards are.some sub in
    let at : row ≡ get_or shards (shard_of sub (length shards)) row = is ∙ ap (λ (n : ℕ). get_or shards n row) i_is in
    record {
      terms_are = ap (λ (v : StoredView R). v.shard.terms) at ∙ are.terms_are (shard_of sub (length shards)) row below;
      identity_is = ap (λ (v : StoredView R). v.shard.identity) at ∙ are.identity_is (shard_of sub (length shards)) row below;
      held_is = ap (λ (v : StoredView R). held v.shard sub) at ∙ sym (held_where_kept same terms identity shards row sub below);
    }

-- the shard of a subscriber stands there, whatever would stand for none
pub part_is : {R : Type 0} → (terms : TermsView) (identity : Identity) (shards : List (StoredView R)) (i : ℕ) (row : StoredView R) (sub : Sub) → AreShards terms identity shards
    → i ≡ shard_of sub (length shards) → row ≡ get_or shards i row → (none : StoredView R) → get_or shards (shard_of sub (length shards)) none ≡ row
part_is terms identity shards i row sub are i_is is none =
    get_or_default shards (shard_of sub (length shards)) none row (is_below shards are.some sub) ∙ sym (is ∙ ap (λ n. get_or shards n row) i_is)

pub one_steps : {R : Type 0} → SameAreEqual → ActsAreActs → (terms : TermsView) (identity : Identity) (shards : List (StoredView R)) (i : ℕ) (row one : StoredView R) (judged : Bool) (sub : Sub) (act : Act)
    → AreShards terms identity shards → i ≡ shard_of sub (length shards) → row ≡ get_or shards i row → IsStep row.shard one.shard judged sub act
    → AreAfter terms identity shards (set shards i one) judged sub act
one_steps {R} same law terms identity shards i row one judged sub act are i_is is step =
    let there = at_shard same terms identity shards i row sub are i_is is in
    let n = shard_of sub (length shards) in
    let at : get_or shards n row ≡ row = sym (is ∙ ap (λ (k : ℕ). get_or shards k row) i_is) in
    let P : StoredView R → Type 0 = λ v. IsStep v.shard one.shard judged sub act in
    let all = step_of_one same terms identity shards one row judged sub act (is_below shards are.some) (ap (λ (v : StoredView R). v.shard.terms) at ∙ there.terms_are) (subst P (sym at) step) in
    let Q : ℕ → Type 0 = λ k. AreAfter terms identity shards (set shards k one) judged sub act in
    subst Q (sym i_is) (record {
      are = shards_after same law terms identity shards one row judged sub act are (step.terms ∙ there.terms_are) (step.identity ∙ there.identity_is) (subst P (sym at) step).others all;
      step = all;
      parts = record {
        own = λ none.
            let was : get_or shards n none ≡ row = get_or_default shards n none row (is_below shards are.some sub) ∙ at in
            let becomes : get_or (set shards n one) n none ≡ one = get_or-set_same shards n one none (is_below shards are.some sub) in
            rw (was, becomes) step;
        others = λ k none apart. get_or-set_other shards n k one none apart;
      };
    })

-- of a subscriber that its own shard has something is held
pub some_at_shard : {R : Type 0} → SameAreEqual → (terms : TermsView) (identity : Identity) (shards : List (StoredView R)) (i : ℕ) (row : StoredView R) (sub : Sub) → AreShards terms identity shards
    → shard_of sub (length shards) ≡ i → row ≡ get_or shards i row → held row.shard sub ≢ [] → held (as_one terms identity shards) sub ≢ []
some_at_shard same terms identity shards i row sub are i_is is some none =
    some ((at_shard same terms identity shards i row sub are (sym i_is) is).held_is ∙ none)

-- of a subscriber that its own shard doesn't have nothing is held
pub none_at_shard : {R : Type 0} → SameAreEqual → (terms : TermsView) (identity : Identity) (shards : List (StoredView R)) (i : ℕ) (row : StoredView R) (sub : Sub) → AreShards terms identity shards
    → shard_of sub (length shards) ≡ i → row ≡ get_or shards i row → held row.shard sub ≡ [] → held (as_one terms identity shards) sub ≡ []
none_at_shard same terms identity shards i row sub are i_is is none =
    sym (at_shard same terms identity shards i row sub are (sym i_is) is).held_is ∙ none
