-- A header, as contracts see it.
use Rattle.std.specs.Prelude.{ℕ}

-- the fields of a message's header behind its version (RFC 6733, section 3)
pub record HeaderView : Type 0 where
  pub length : ℕ
  pub flags : ℕ
  pub code : ℕ
  pub app : ℕ
  pub hop : ℕ
  pub end_to_end : ℕ
