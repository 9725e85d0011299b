use Rattle.std.proofs.Common.{◌≡◌, refl, ap, subst, ◌∙◌}
use Rattle.dcc_act.specs.declared.sub.Sub.{Sub}
use Rattle.dcc_store.specs.Books.{acts_in}
use Rattle.dcc_store.specs.Memory.{MemoryView, content_of}
use Rattle.dcc_store.specs.inner.Rows.{held_in, IsLog}
use Rattle.dcc_store.proofs.Reading.{read_pages, read_book, read_content}
use Rattle.dcc_store.proofs.memory.MemoryRecordsRecords.load.Goals as goal

pub returns-clause-book : goal.returns-clause-book
returns-clause-book c =
    let log_is = ap (λ (v : MemoryView). v.log) c.self.view_is in
    let P : MemoryView → Type 0 = λ v. IsLog v.terms v.log in
    let is_log : IsLog c.args.self.now.terms c.args.self.now.log = subst P c.self.view_is c.self.invariant in
    let same : (sub : Sub) → acts_in c.of.result sub ≡ held_in c.args.self.now.log sub =
    read_pages c.args.self.now.log c.in_ok-rows.rows.entries c.sort.new.rows.entries c.of.result (c.of.ensures ∙ c.in_ok-pages.ensures.pages) c.sort.ensures.kept
    (λ sub. c.in_ok-rows.ensures sub ∙ ap (λ log. held_in log sub) (c.deref.ensures.value ∙ log_is)) in
    read_book c.args.self.now c.of.result same is_log

pub returns-clause-found : goal.returns-clause-found
returns-clause-found c = λ found left sub.
    let log_is = ap (λ (v : MemoryView). v.log) c.self.view_is in
    let P : MemoryView → Type 0 = λ v. IsLog v.terms v.log in
    let is_log : IsLog c.args.self.now.terms c.args.self.now.log = subst P c.self.view_is c.self.invariant in
    let same : (sub : Sub) → acts_in c.of.result sub ≡ held_in c.args.self.now.log sub =
    read_pages c.args.self.now.log c.in_ok-rows.rows.entries c.sort.new.rows.entries c.of.result (c.of.ensures ∙ c.in_ok-pages.ensures.pages) c.sort.ensures.kept
    (λ sub. c.in_ok-rows.ensures sub ∙ ap (λ log. held_in log sub) (c.deref.ensures.value ∙ log_is)) in
    left sub ∙ read_content c.args.self.now c.of.result same is_log sub

pub returns-clause-there : goal.returns-clause-there
returns-clause-there c = λ _.
    let log_is = ap (λ (v : MemoryView). v.log) c.self.view_is in
    let P : MemoryView → Type 0 = λ v. IsLog v.terms v.log in
    let is_log : IsLog c.args.self.now.terms c.args.self.now.log = subst P c.self.view_is c.self.invariant in
    let same : (sub : Sub) → acts_in c.of.result sub ≡ held_in c.args.self.now.log sub =
    read_pages c.args.self.now.log c.in_ok-rows.rows.entries c.sort.new.rows.entries c.of.result (c.of.ensures ∙ c.in_ok-pages.ensures.pages) c.sort.ensures.kept
    (λ sub. c.in_ok-rows.ensures sub ∙ ap (λ log. held_in log sub) (c.deref.ensures.value ∙ log_is)) in
    ∣ (content_of c.args.self.now, read_content c.args.self.now c.of.result same is_log, λ sub. refl) ∣₁
