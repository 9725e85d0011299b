use Rattle.std.proofs.Common.{◌≡◌, ◌+◌, ℕ, List, ◌++◌, length, take, drop, refl, sym, ap, ◌∙◌, append_assoc}
use Rattle.std.proofs.lemmas.List.{take_at, drop_at, drop-drop}
use Rattle.dcc_message.specs.Headers.{header}
use Rattle.dcc_message.proofs.header.put_header.Goals as goal

-- twelve octets and then eight, written over the first twenty
over : (old mid new front back : List ℕ) → length front ≡ 12 → length back ≡ 8 → mid ≡ take 0 old ++ (front ++ drop (0 + length front) old) →
    new ≡ take 12 mid ++ (back ++ drop (12 + length back) mid) → new ≡ front ++ back ++ drop 20 old
over old mid new front back f b first second =
    let begun : mid ≡ front ++ drop 12 old = first ∙ rw f refl in
    let head : take 12 mid ≡ front = ap (take 12) begun ∙ take_at front (drop 12 old) 12 f in
    let behind : drop 12 mid ≡ drop 12 old = ap (drop 12) begun ∙ drop_at front (drop 12 old) 12 f in
    let rest : drop 20 mid ≡ drop 20 old = sym (drop-drop 8 12 mid) ∙ ap (drop 8) behind ∙ drop-drop 8 12 old in
    second ∙ rw (head, b, rest) (sym (append_assoc front back (drop 20 old)))

pub returns : goal.returns
unfolding header
returns c =
    let both = over c.args.all.now c.put_over.new.all c.put_over-2.new.all c.front_octets.result c.identifier_octets.result
    (ap length c.front_octets.ensures) (ap length c.identifier_octets.ensures) c.put_over.ensures c.put_over-2.ensures in
    both ∙ rw (c.front_octets.ensures, c.identifier_octets.ensures) refl
