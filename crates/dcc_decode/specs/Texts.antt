-- What is known of the text of a tree.
use Rattle.std.specs.Prelude.{◌≡◌, ℕ, ◌==◌, if◌then◌else◌, List, [], ◌∷◌, ◌++◌, codes, Option, Some, None, IfOk}
use Rattle.std.specs.Fmt.{decimal}
use Rattle.dcc_message.specs.HeaderView.{HeaderView}
use Rattle.dcc_message.specs.Headers.{header_of, is_request}

-- a text begins with another one
abbrev pub Begins : (front text : List ℕ) → Type 0
Begins front text = (rest : List ℕ) × (text ≡ front ++ rest)

-- the text ends with a line feed
abbrev pub EndsLine : List ℕ → Type 0
EndsLine text = (front : List ℕ) × (text ≡ front ++ 10 ∷ [])

-- the name of a command (RFC 6733, section 3.1, and RFC 8506, section 3), without the word that tells its request from its answer
abbrev pub command_name : ℕ → Option (List ℕ)
command_name code =
    if code == 257 then Some (codes "Capabilities-Exchange")
    else (if code == 272 then Some (codes "Credit-Control")
    else (if code == 280 then Some (codes "Device-Watchdog")
    else (if code == 282 then Some (codes "Disconnect-Peer") else None)))

-- that word
abbrev pub kind_of : HeaderView → List ℕ
kind_of header = if is_request header then codes "Request" else codes "Answer"

-- a command by its name, or by its number where it isn't known
abbrev pub named : Option (List ℕ) → HeaderView → List ℕ
named (Some name) header = name ++ codes "-" ++ kind_of header
named None header = kind_of header ++ (codes " of command " ++ decimal header.code)

-- the name of a message's command
unfoldable pub title_of : HeaderView → List ℕ
title_of header = named (command_name header.code) header

-- a tree of whole lines, of which the first is this title
pub record IsTreeBelow (title tree : List ℕ) : Type 0 where
  pub ends : EndsLine tree
  pub begins : Begins (title ++ 10 ∷ []) tree

-- The tree of a message is of whole lines. That of a message whose header can be read begins with the name of its command.
pub record IsTree (message tree : List ℕ) : Type 0 where
  pub ends : EndsLine tree
  pub begins : IfOk (header_of message) (λ header. Begins (title_of header ++ 10 ∷ []) tree)
