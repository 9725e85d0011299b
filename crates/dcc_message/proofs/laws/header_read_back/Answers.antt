use Rattle.std.proofs.Common.{◌≡◌, ◌+◌, ℕ, List, ◌++◌, length, refl, arith}
use Rattle.dcc_message.specs.HeaderView.{HeaderView}
use Rattle.dcc_message.specs.Headers.{header, message}
use Rattle.dcc_message.proofs.Fields.{only_of}
use Rattle.dcc_message.proofs.laws.header_read_back.Goals as goal

stands : (h : HeaderView) (avps : List ℕ) → message h avps ≡ header (record h { length = 20 + length avps }) ++ avps
unfolding message
stands h avps = refl

counted : (h : HeaderView) (avps : List ℕ) → 20 + length avps ≡ length (message h avps)
unfolding message header
counted h avps = omega arith

pub returns : goal.returns
returns c = λ h avps fits. only_of (message h avps) (record h { length = 20 + length avps }) avps fits (stands h avps) (counted h avps)
