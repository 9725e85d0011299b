-- Who is found by one shard after another.
use Rattle.std.proofs.Common.{◌≡◌, ℕ, ◌+◌, List, [], ◌∷◌, ◌++◌, length, refl, sym, ap, ◌∙◌, arith}
use Rattle.std.specs.List.{AllByRecursion}
use Rattle.dcc_openers.specs.Found.{joined}
use Rattle.dcc_openers.specs.declared.found.Found.{Found}
use Rattle.dcc_openers.specs.declared.found.Found.TheVariants as found
use Rattle.dcc_running.specs.Calls.{IsFoundBy, joined_with, IsResolved}

joined_last : (who part : Found) (parts : List Found) → joined_with who (parts ++ part ∷ []) ≡ joined (joined_with who parts) part
joined_last who part [] = refl
joined_last who part (one ∷ parts) = joined_last (joined who one) part parts

all_with : (host sid : List ℕ) (part : Found) (parts : List Found) → AllByRecursion (IsFoundBy host sid) parts → IsFoundBy host sid part → AllByRecursion (IsFoundBy host sid) (parts ++ part ∷ [])
all_with host sid part [] all is = (is, tt)
all_with host sid part (one ∷ parts) all is = (all.0, all_with host sid part parts all.1 is)

one_longer : (part : Found) (parts : List Found) → length (parts ++ part ∷ []) ≡ length parts + 1
one_longer part [] = refl
one_longer part (one ∷ parts) = let rest = one_longer part parts in omega (arith, rest)

-- before any is asked, nobody is found
pub none_resolved : (host sid : List ℕ) → IsResolved 0 host sid found.None
none_resolved host sid = ([], refl, tt, refl)

-- with one more
pub one_more_resolved : (count : ℕ) (host sid : List ℕ) (before part : Found) → IsResolved count host sid before → IsFoundBy host sid part → IsResolved (count + 1) host sid (joined before part)
one_more_resolved count host sid before part is found_part =
    (is.0 ++ part ∷ [], one_longer part is.0 ∙ ap (λ (n : ℕ). n + 1) is.1, all_with host sid part is.0 is.2 found_part, ap (λ (who : Found). joined who part) is.3 ∙ sym (joined_last found.None part is.0))
