-- How answering goes on.
use Rattle.std.proofs.Common.{◌≡◌, ℕ, ◌+◌, ◌<◌, true, false, List, [], ◌∷◌, ◌++◌, length, take, drop, take-append-drop, refl, sym, ap, ◌∙◌, subst, append_assoc, None, Some, Option, inl, inr, Result, Ok, Err, arith, length-append, length-take}
use Rattle.std.specs.Io.KnownBytes.{Appends}
use Rattle.std.specs.List.{concat}
use Rattle.std.specs.Result.{IsErrAnd}
use Rattle.std.proofs.KnownBytes.{Appends-nil, Appends-trans}
use Rattle.std.proofs.lemmas.List.{append-nil, take_all}
use Rattle.std.proofs.Math.Seq.{take-append-add}
use mathlib.Core.List.{IsPrefix}
use Rattle.dcc_base.specs.declared.reply.Reply.{Reply}
use Rattle.dcc_connect.specs.declared.turns.Turn.TheVariants as turn
use Rattle.dcc_connect.specs.declared.fault.ConnectFault.{ConnectFault}
use Rattle.dcc_connect.specs.declared.fault.ConnectFault.TheVariants.{Read, Write, TooManyTurns, Header, Memory}
use Rattle.dcc_connect.specs.declared.fault.ConnectionEnd.{ConnectionEnd}
use Rattle.dcc_connect.specs.declared.fault.ConnectionEnd.TheVariants.{End, Closed, Fault}
use Rattle.dcc_connect.specs.Serving.{Answers, AnswersOn, AnswersLast, ReadsAndServes}
use Rattle.dcc_connect.specs.inner.Sends.{Counts, Sends}
use Rattle.dcc_connect.specs.inner.Steps.{StreamLaws, TakesPiece, Nexts, HasPassed}
use Rattle.dcc_connect.specs.inner.Answering.{AnswersReady, HasAnswered, HasServed}
use Rattle.dcc_connect.proofs.Passing.{pass_all, pass_before, pass_up_to, pass_on, pass_none, pass_one, all_none, before_none, last_one}
use Rattle.dcc_connect.proofs.Turning.{begun, fed, drained, one_more, no_more, longer, snoc}

module _ {A : Type 0} (answers : A → ℕ → List ℕ → Reply → A → Type 0) where
  pub reply_begun : (held : List ℕ) (a : A) (x : Option (List ℕ)) (cs : Counts) → HasAnswered answers held held a a x x cs cs
  reply_begun held a x cs = record {
    due = [];
    passed = λ before. subst (λ d. HasPassed (AnswersOn answers) held held (a, before) (a, d)) (sym (append-nil before)) (pass_none (AnswersOn answers) held (a, before));
    out = Appends-nil x;
    written = omega arith;
    fewer = omega arith;
    turned = omega arith;
  }

  pub reply_on : (held mid now m : List ℕ) (a b c : A) (x y z : Option (List ℕ)) (old cs new : Counts) (moment : ℕ) (reply : Reply)
      → HasAnswered answers held mid a b x y old cs → Nexts (Ok (Some m)) mid now → answers b moment m reply c → Sends (Ok tt) y z reply.octets cs new → reply.close ≡ false
      → HasAnswered answers held now a c x z old new
  reply_on held mid now m a b c x y z old cs new moment reply h next ans s stays =
      let count = s.0 in
      let written = s.3 in
      let fewer = s.4 in
      let all = s.5.0 in
      let left = s.5.1 in
      let same : take count reply.octets ≡ reply.octets = take_all count reply.octets (omega arith) in
      let long = length-append h.due reply.octets in
      let was = h.written in
      let few = h.fewer in
      let turned = h.turned in
      record {
        due = h.due ++ reply.octets;
        passed = λ before. pass_on (AnswersOn answers) held mid now _ _ _ (h.passed before)
            (pass_one (AnswersOn answers) mid now m _ _ next (moment, reply, ans, sym (append_assoc before h.due reply.octets), stays));
        out = Appends-trans x y z h.due reply.octets h.out (subst (Appends y z) same s.2);
        written = omega arith;
        fewer = omega arith;
        turned = omega arith;
      }

  pub reply_closes : (held mid now m : List ℕ) (a b c : A) (x y z : Option (List ℕ)) (old cs new : Counts) (moment : ℕ) (reply : Reply)
      → HasAnswered answers held mid a b x y old cs → Nexts (Ok (Some m)) mid now → answers b moment m reply c → Sends (Ok tt) y z reply.octets cs new → reply.close ≡ true
      → AnswersReady answers (Err Closed) held now a c x z old new
  reply_closes held mid now m a b c x y z old cs new moment reply h next ans s closes =
      let count = s.0 in
      let written = s.3 in
      let fewer = s.4 in
      let all = s.5.0 in
      let left = s.5.1 in
      let same : take count reply.octets ≡ reply.octets = take_all count reply.octets (omega arith) in
      let long = length-append h.due reply.octets in
      let was = h.written in
      let few = h.fewer in
      let turned = h.turned in (
        h.due ++ reply.octets,
        h.due ++ reply.octets,
        Appends-trans x y z h.due reply.octets h.out (subst (Appends y z) same s.2),
        omega arith,
        omega arith,
        (
          λ before. pass_up_to (AnswersOn answers) (AnswersLast answers) held mid _ _ _ (h.passed before)
              (last_one (AnswersOn answers) (AnswersLast answers) mid now m _ _ next (moment, reply, ans, sym (append_assoc before h.due reply.octets), closes)),
          (refl, omega arith),
        ),
      )

  stopped : (f : ConnectFault) (held mid now m : List ℕ) (a b c : A) (x y z : Option (List ℕ)) (old cs new : Counts) (moment : ℕ) (reply : Reply)
      → HasAnswered answers held mid a b x y old cs → Nexts (Ok (Some m)) mid now → answers b moment m reply c → Sends (Err f) y z reply.octets cs new
      → AnswersReady answers (Err (Fault f)) held now a c x z old new
  stopped (Write w) held mid now m a b c x y z old cs new moment reply h next ans s =
      let count = s.0 in
      let within = s.1 in
      let written = s.3 in
      let fewer = s.4 in
      let cut = s.5.0 in
      let told = s.5.1 in
      let spent = s.5.3 in
      let some = length-take count reply.octets in
      let long = length-append h.due reply.octets in
      let out = length-append h.due (take count reply.octets) in
      let at : length (h.due ++ take count reply.octets) ≡ length h.due + count = omega arith in
      let was = h.written in
      let few = h.fewer in (
        h.due ++ reply.octets,
        h.due ++ take count reply.octets,
        Appends-trans x y z h.due _ h.out s.2,
        omega arith,
        omega arith,
        (
          λ before. pass_up_to (AnswersOn answers) (Answers answers) held mid _ _ _ (h.passed before)
              (last_one (AnswersOn answers) (Answers answers) mid now m _ _ next (moment, reply, ans, sym (append_assoc before h.due reply.octets))),
          omega arith,
          sym (take-append-add h.due reply.octets count) ∙ ap (λ n. take n (h.due ++ reply.octets)) (sym at),
          omega arith,
          omega arith,
        ),
      )
  stopped TooManyTurns held mid now m a b c x y z old cs new moment reply h next ans s =
      let count = s.0 in
      let within = s.1 in
      let written = s.3 in
      let fewer = s.4 in
      let cut = s.5.0 in
      let none = s.5.1 in
      let used = s.5.2 in
      let some = length-take count reply.octets in
      let long = length-append h.due reply.octets in
      let out = length-append h.due (take count reply.octets) in
      let at : length (h.due ++ take count reply.octets) ≡ length h.due + count = omega arith in
      let was = h.written in
      let few = h.fewer in
      let turned = h.turned in (
        h.due ++ reply.octets,
        h.due ++ take count reply.octets,
        Appends-trans x y z h.due _ h.out s.2,
        omega arith,
        omega arith,
        (
          λ before. pass_up_to (AnswersOn answers) (Answers answers) held mid _ _ _ (h.passed before)
              (last_one (AnswersOn answers) (Answers answers) mid now m _ _ next (moment, reply, ans, sym (append_assoc before h.due reply.octets))),
          omega arith,
          sym (take-append-add h.due reply.octets count) ∙ ap (λ n. take n (h.due ++ reply.octets)) (sym at),
          omega arith,
        ),
      )
  stopped Read held mid now m a b c x y z old cs new moment reply h next ans s = absurd s.5
  stopped Memory held mid now m a b c x y z old cs new moment reply h next ans s = absurd s.5
  stopped (Header f) held mid now m a b c x y z old cs new moment reply h next ans s = absurd s.5

  pub reply_stops : (r : Result (Unit {0}) ConnectionEnd) (f : ConnectFault) (held mid now m : List ℕ) (a b c : A) (x y z : Option (List ℕ)) (old cs new : Counts) (moment : ℕ) (reply : Reply)
      → HasAnswered answers held mid a b x y old cs → Nexts (Ok (Some m)) mid now → answers b moment m reply c → Sends (Err f) y z reply.octets cs new
      → IsErrAnd r (λ e. e ≡ Fault f) → AnswersReady answers r held now a c x z old new
  reply_stops (Ok done) f held mid now m a b c x y z old cs new moment reply h next ans s k = absurd k
  reply_stops (Err e) f held mid now m a b c x y z old cs new moment reply h next ans s k =
      subst (λ e. AnswersReady answers (Err e) held now a c x z old new) (sym k) (stopped f held mid now m a b c x y z old cs new moment reply h next ans s)

  pub reply_none : (held mid now : List ℕ) (a b : A) (x y : Option (List ℕ)) (old cs : Counts) → HasAnswered answers held mid a b x y old cs → Nexts (Ok None) mid now
      → AnswersReady answers (Ok tt) held now a b x y old cs
  reply_none held mid now a b x y old cs h next = (
    h.due,
    h.due,
    h.out,
    h.written,
    h.fewer,
    (
      λ before. pass_all (AnswersOn answers) held mid _ _ _ (h.passed before) (all_none (AnswersOn answers) mid _ next.0 next.1 next.2),
      next.3 ∙ sym next.1 ∙ sym (h.passed []).left,
      (refl, h.turned),
    ),
  )

  unread : (f : ConnectFault) (held mid now : List ℕ) (a b : A) (x y : Option (List ℕ)) (old cs : Counts) → HasAnswered answers held mid a b x y old cs → Nexts (Err f) mid now
      → AnswersReady answers (Err (Fault f)) held now a b x y old cs
  unread (Header f) held mid now a b x y old cs h next = (
    h.due,
    h.due,
    h.out,
    h.written,
    h.fewer,
    (λ before. pass_before (AnswersOn answers) f held mid _ _ _ (h.passed before) (before_none (AnswersOn answers) f mid _ next), (refl, h.turned)),
  )
  unread Read held mid now a b x y old cs h next = absurd next
  unread Memory held mid now a b x y old cs h next = absurd next
  unread TooManyTurns held mid now a b x y old cs h next = absurd next
  unread (Write w) held mid now a b x y old cs h next = absurd next

  pub reply_err : (r : Result (Unit {0}) ConnectionEnd) (f : ConnectFault) (held mid now : List ℕ) (a b : A) (x y : Option (List ℕ)) (old cs : Counts)
      → HasAnswered answers held mid a b x y old cs → Nexts (Err f) mid now → IsErrAnd r (λ e. e ≡ Fault f) → AnswersReady answers r held now a b x y old cs
  reply_err (Ok done) f held mid now a b x y old cs h next k = absurd k
  reply_err (Err e) f held mid now a b x y old cs h next k =
      subst (λ e. AnswersReady answers (Err e) held now a b x y old cs) (sym k) (unread f held mid now a b x y old cs h next)

  -- ---- a whole connection

  pub serve_begun : StreamLaws → (turns : ℕ) (i x : Option (List ℕ)) (held : List ℕ) (a : A) (cs : Counts) → held ≡ [] → cs.left ≡ turns → cs.written ≡ 0
      → HasServed answers 0 turns i i x x held a a cs
  serve_begun laws turns i x held a cs e left written = record {
    due = [];
    reading = begun (AnswersOn answers) laws i (a, []) held e;
    out = Appends-nil x;
    written = written;
    turned = omega arith;
    spent = omega arith;
  }

  pub serve_on : StreamLaws → (n turns : ℕ) (i j k x y z : Option (List ℕ)) (held mid now : List ℕ) (a b c : A) (cs ds es : Counts)
      → HasServed answers n turns i j x y held a b cs → cs.left ≡ ds.left + 1 → ds.written ≡ cs.written → TakesPiece (Ok turn.Fed) j k held mid
      → AnswersReady answers (Ok tt) mid now b c y z ds es → HasServed answers (n + 1) turns i k x z now a c es
  serve_on laws n turns i j k x y z held mid now a b c cs ds es h l w p r =
      let due = r.0 in
      let out = r.1 in
      let written = r.3 in
      let fewer = r.4 in
      let sent = r.5.2.0 in
      let left = r.5.2.1 in
      let size : length out ≡ length due = ap length sent in
      let long = length-append h.due due in
      let was = h.written in
      let turned = h.turned in
      let spent = h.spent in
      let on = fed (AnswersOn answers) laws n i j k held mid (a, []) (b, h.due) h.reading p in
      record {
        due = h.due ++ due;
        reading = drained (AnswersOn answers) (n + 1) i k mid now (a, []) (b, h.due) (c, h.due ++ due) on (r.5.0 h.due) r.5.1;
        out = Appends-trans x y z h.due due h.out (subst (Appends y z) sent r.2);
        written = omega arith;
        turned = omega arith;
        spent = omega arith;
      }

  pub serve_fault : (f : ConnectFault) (n turns : ℕ) (i j k x y : Option (List ℕ)) (held mid : List ℕ) (a b : A) (cs : Counts)
      → HasServed answers n turns i j x y held a b cs → n < turns → TakesPiece (Err f) j k held mid → ReadsAndServes answers (Fault f) turns i k x y a b
  serve_fault Read n turns i j k x y held mid a b cs h few p =
      let read = h.reading in
      let counted = read.counted in
      (read.pieces, h.due, h.due, no_more i j k read.pieces read.given p, h.out, omega arith, (read.passed, refl))
  serve_fault Memory n turns i j k x y held mid a b cs h few p =
      let read = h.reading in
      let counted = longer read.pieces p.0 n read.counted in (
        read.pieces ++ p.0 ∷ [],
        h.due,
        h.due,
        one_more i j k read.pieces p.0 read.given p.1 p.2,
        h.out,
        omega arith,
        ((concat read.pieces, p.0, snoc read.pieces p.0, read.passed), refl),
      )
  serve_fault (Write w) n turns i j k x y held mid a b cs h few p = absurd p
  serve_fault (Header f) n turns i j k x y held mid a b cs h few p = absurd p
  serve_fault TooManyTurns n turns i j k x y held mid a b cs h few p = absurd p

  pub serve_end : (n turns : ℕ) (i j k x y : Option (List ℕ)) (held mid : List ℕ) (a b : A) (cs : Counts)
      → HasServed answers n turns i j x y held a b cs → n < turns → TakesPiece (Ok turn.End) j k held mid → ReadsAndServes answers End turns i k x y a b
  serve_end n turns i j k x y held mid a b cs h few p =
      let read = h.reading in
      let counted = read.counted in
      (read.pieces, h.due, h.due, no_more i j k read.pieces read.given p.0, h.out, omega arith, (read.passed, refl))

  pub serve_out : (n turns : ℕ) (i j x y : Option (List ℕ)) (held : List ℕ) (a b : A) (cs : Counts)
      → HasServed answers n turns i j x y held a b cs → cs.left ≡ 0 → ReadsAndServes answers (Fault TooManyTurns) turns i j x y a b
  serve_out n turns i j x y held a b cs h none =
      let read = h.reading in
      let counted = read.counted in
      let turned = h.turned in
      let spent = h.spent in
      (read.pieces, h.due, h.due, read.given, h.out, (omega arith, omega arith), inl (read.passed, refl))

  pub serve_stops : (end : ConnectionEnd) → StreamLaws → (n turns : ℕ) (i j k x y z : Option (List ℕ)) (held mid now : List ℕ) (a b c : A) (cs ds es : Counts)
      → HasServed answers n turns i j x y held a b cs → n < turns → cs.left ≡ ds.left + 1 → ds.written ≡ cs.written → TakesPiece (Ok turn.Fed) j k held mid
      → AnswersReady answers (Err end) mid now b c y z ds es → ReadsAndServes answers end turns i k x z a c
  serve_stops Closed laws n turns i j k x y z held mid now a b c cs ds es h few l w p r =
      let on = fed (AnswersOn answers) laws n i j k held mid (a, []) (b, h.due) h.reading p in
      let counted = on.counted in (
        on.pieces,
        h.due ++ r.0,
        h.due ++ r.1,
        on.given,
        Appends-trans x y z h.due r.1 h.out r.2,
        omega arith,
        (pass_up_to (AnswersOn answers) (AnswersLast answers) (concat on.pieces) mid _ _ _ on.passed (r.5.0 h.due), ap (λ o. h.due ++ o) r.5.1.0),
      )
  serve_stops (Fault (Header f)) laws n turns i j k x y z held mid now a b c cs ds es h few l w p r =
      let on = fed (AnswersOn answers) laws n i j k held mid (a, []) (b, h.due) h.reading p in
      let counted = on.counted in (
        on.pieces,
        h.due ++ r.0,
        h.due ++ r.1,
        on.given,
        Appends-trans x y z h.due r.1 h.out r.2,
        omega arith,
        (pass_before (AnswersOn answers) f (concat on.pieces) mid _ _ _ on.passed (r.5.0 h.due), ap (λ o. h.due ++ o) r.5.1.0),
      )
  serve_stops (Fault (Write written)) laws n turns i j k x y z held mid now a b c cs ds es h few l w p r =
      let on = fed (AnswersOn answers) laws n i j k held mid (a, []) (b, h.due) h.reading p in
      let counted = on.counted in
      let gone = r.3 in
      let cut = r.5.1 in
      let told = r.5.3 in
      let used = r.5.4 in
      let spent = h.spent in
      let was = h.written in
      let long = length-append h.due r.0 in
      let out = length-append h.due r.1 in
      let at : written ≡ length h.due + length r.1 = omega arith in (
        on.pieces,
        h.due ++ r.0,
        h.due ++ r.1,
        on.given,
        Appends-trans x y z h.due r.1 h.out r.2,
        omega arith,
        (
          pass_up_to (AnswersOn answers) (Answers answers) (concat on.pieces) mid _ _ _ on.passed (r.5.0 h.due),
          omega arith,
          ap (λ o. h.due ++ o) r.5.2 ∙ sym (take-append-add h.due r.0 (length r.1)) ∙ ap (λ n. take n (h.due ++ r.0)) (sym at),
        ),
      )
  serve_stops (Fault TooManyTurns) laws n turns i j k x y z held mid now a b c cs ds es h few l w p r =
      let on = fed (AnswersOn answers) laws n i j k held mid (a, []) (b, h.due) h.reading p in
      let counted = on.counted in
      let used = r.5.3 in
      let turned = h.turned in
      let out = length-append h.due r.1 in
      let front : h.due ++ r.1 ≡ take (length h.due + length r.1) (h.due ++ r.0) = ap (λ o. h.due ++ o) r.5.2 ∙ sym (take-append-add h.due r.0 (length r.1)) in (
        on.pieces,
        h.due ++ r.0,
        h.due ++ r.1,
        on.given,
        Appends-trans x y z h.due r.1 h.out r.2,
        (omega arith, omega arith),
        inr (
          pass_up_to (AnswersOn answers) (Answers answers) (concat on.pieces) mid _ _ _ on.passed (r.5.0 h.due),
          subst (λ s. IsPrefix s (h.due ++ r.0)) (sym front) (drop (length h.due + length r.1) (h.due ++ r.0), take-append-drop (length h.due + length r.1) (h.due ++ r.0)),
        ),
      )
  serve_stops End laws n turns i j k x y z held mid now a b c cs ds es h few l w p r = absurd r.5
  serve_stops (Fault Read) laws n turns i j k x y z held mid now a b c cs ds es h few l w p r = absurd r.5
  serve_stops (Fault Memory) laws n turns i j k x y z held mid now a b c cs ds es h few l w p r = absurd r.5
