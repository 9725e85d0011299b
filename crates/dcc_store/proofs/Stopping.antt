-- What a stop leaves of records in memory.
use Rattle.std.proofs.Common.{◌≡◌, true, List, ◌++◌, refl, ap, ◌∙◌}
use Rattle.dcc_act.specs.Subs.{SameAreEqual}
use Rattle.dcc_store.specs.Books.{Held}
use Rattle.dcc_store.specs.Contents.{Content, IsContentOf}
use Rattle.dcc_store.specs.Batches.{AdditionView, subs_of, with_all, are_apart, acts_of, AreNext}
use Rattle.dcc_store.specs.Stops.{LeavesOnly}
use Rattle.dcc_store.specs.Laws.{AccountsGrow}
use Rattle.dcc_store.specs.Memory.{MemoryView, content_of, leaves_of, nothing, with_additions}
use Rattle.dcc_store.proofs.Adding.{content_grows, joined_content, next_alike, acts_are}

-- once a batch is added, a stop leaves the book with it
pub stored : (old new : MemoryView) (batch : List AdditionView) (held : Held) → new.log ≡ old.log ++ batch → SameAreEqual → AccountsGrow
    → are_apart (subs_of batch) ≡ true → AreNext old.terms batch (acts_of (content_of old)) → LeavesOnly old.terms held (leaves_of old)
    → LeavesOnly old.terms (with_all batch held) (leaves_of new)
stored old new batch held is same grows apart next only found left sub =
    let was : IsContentOf old.terms held (content_of old) = only (content_of old) (λ other. refl) in
    let there = next_alike old.terms batch (acts_of (content_of old)) held (acts_are old.terms held (content_of old) was) next in
    left sub ∙ ap (λ (log : List AdditionView). with_additions log nothing sub) is ∙ ap (λ (content : Content). content sub) (joined_content old.log batch nothing)
    ∙ content_grows old.terms batch held (content_of old) same grows apart there was sub

-- what is left stays where the log does
pub unchanged : (old new : MemoryView) → new.log ≡ old.log → (found : Content) → leaves_of new found → leaves_of old found
unchanged old new is found left sub = left sub ∙ ap (λ (log : List AdditionView). with_additions log nothing sub) is
