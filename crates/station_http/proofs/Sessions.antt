-- A session, request by request.
use Rattle.std.proofs.Common.{◌≡◌, ◌+◌, ◌-◌, ◌<◌, ◌≤◌, ℕ, Bool, true, false, List, [], ◌∷◌, ◌++◌, length, drop, Option, Some, None, Result, Ok, Err, sym, refl, ap, ◌∙◌, subst, subst₂, arith, append_assoc, append-nil, if◌then◌else◌, MatchBool, ◌⊎◌, inl, inr}
use Rattle.std.specs.Io.KnownBytes.{Consumes}
use Rattle.std.proofs.KnownBytes.{Consumes-nil, Consumes-trans}
use Rattle.std.proofs.lemmas.List.{length-append, length-drop, drop-append-le}
use Rattle.station_http.specs.declared.fault.HttpFault.{HttpFault}
use Rattle.station_http.specs.declared.asked.Asked.{Asked}
use Rattle.station_http.specs.declared.stage.Stage.{Stage}
use Rattle.station_http.specs.declared.stage.Stage.TheVariants.{Open, Closed, Spent}
use Rattle.station_http.specs.Reading.{Reading}
use Rattle.station_http.specs.Found.{part, whole, IsFound}
use Rattle.station_http.specs.Talk.{IsTalk, IsEnd, IsSession, IsFront, is_last, end_of}
use Rattle.station_http.specs.Gives.{GivesAt, Gives, IsFault, EndsAt, IsAlive, is_full}
use Rattle.station_http.specs.Sessions.{IsWholeBy}
use Rattle.station_http.specs.declared.fault.HttpFault.TheVariants.{Spent as SpentFault, ReadFault, SessionLong, HeadTooLong, BadHead, ChunkedBody, NoLength, BodyTooLong, Cut, NoRoute, BadMethod, Memory}
use Rattle.station_http.proofs.Stays.{whole_stays}

-- what may follow
abbrev pub RestAt : Stage → Bool → List ℕ → List Asked → Option HttpFault → Type 0
RestAt Open full bytes more end = IsTalk full bytes more end
RestAt Closed full bytes more end = (more ≡ []) × (end ≡ None)
RestAt Spent full bytes more end = ⊥

abbrev pub RestFront : Stage → List ℕ → List Asked → Type 0
RestFront Open bytes more = IsFront bytes more
RestFront Closed bytes more = more ≡ []
RestFront Spent bytes more = ⊥

-- The requests so far: whatever follows what is pending follows them.
pub record Heard (left_old left_new : Option (List ℕ)) (conn : Reading) (requests : List Asked) : Type 0 where
  pub bytes : List ℕ
  pub from : Consumes left_old left_new bytes
  pub size : conn.taken ≡ length bytes
  pub held : length conn.pending ≤ conn.taken
  pub alive : conn.stage ≡ Spent → ⊥
  pub goes : (full : Bool) (follow : List ℕ) (more : List Asked) (end : Option HttpFault) → RestAt conn.stage full (conn.pending ++ follow) more end → IsTalk full (bytes ++ follow) (requests ++ more) end
  pub front : (follow : List ℕ) (more : List Asked) → RestFront conn.stage (conn.pending ++ follow) more → IsFront (bytes ++ follow) (requests ++ more)
  pub last : conn.stage ≡ Closed → is_last requests ≡ true

pub silence : (left : Option (List ℕ)) (conn : Reading) (requests : List Asked) → requests ≡ [] → conn.pending ≡ [] → conn.taken ≡ 0 → conn.stage ≡ Open → Heard left left conn requests
silence left conn requests none pending taken stage =
    record {
      bytes = [];
      from = Consumes-nil left;
      size = taken;
      held = omega (arith, ap length pending);
      alive = λ e. open_not_spent (sym stage ∙ e);
      goes = λ full follow more end h.
          subst (λ (rs : List Asked). IsTalk full follow (rs ++ more) end) (sym none)
          (subst (λ (xs : List ℕ). IsTalk full (xs ++ follow) more end) pending (subst (λ (s : Stage). RestAt s full (conn.pending ++ follow) more end) stage h));
      front = λ follow more h.
          subst (λ (rs : List Asked). IsFront follow (rs ++ more)) (sym none)
          (subst (λ (xs : List ℕ). IsFront (xs ++ follow) more) pending (subst (λ (s : Stage). RestFront s (conn.pending ++ follow) more) stage h));
      last = λ e. absurd (open_not_closed (sym stage ∙ e));
    }
  where
    open_not_spent : Open ≡ Spent → ⊥
    open_not_spent e = cc

    open_not_closed : Open ≡ Closed → ⊥
    open_not_closed e = cc

test_from : (P Q : Type 0) (b : Bool) → (b ≡ true → P) → (b ≡ false → Q) → MatchBool b P Q
test_from P Q true p q = p refl
test_from P Q false p q = q refl

-- what follows a request
follows : (full : Bool) (n : ℕ) (known after follow : List ℕ) (asked : Asked) (more : List Asked) (end : Option HttpFault) (stage : Stage)
    → IsFound known (whole n asked) → after ≡ drop n known → stage ≡ (if asked.close then Closed else Open) → RestAt stage full (after ++ follow) more end → IsTalk full (known ++ follow) (asked ∷ more) end
follows full n known after follow asked more end stage is cut to h =
    let w = whole_stays known follow n asked is in
    let rest : after ++ follow ≡ drop n (known ++ follow) = ap (λ (xs : List ℕ). xs ++ follow) cut ∙ sym (drop-append-le n known follow w.1) in (
      n,
      w.0,
      test_from _ _ asked.close
          (λ yes'. subst (λ (s : Stage). RestAt s full (after ++ follow) more end) (to ∙ ap (λ (t : Bool). if t then Closed else Open) yes') h)
          (λ no'. subst (λ (xs : List ℕ). IsTalk full xs more end) rest (subst (λ (s : Stage). RestAt s full (after ++ follow) more end) (to ∙ ap (λ (t : Bool). if t then Closed else Open) no') h)),
    )

-- what follows a request, of a front
follows_front : (n : ℕ) (known after follow : List ℕ) (asked : Asked) (more : List Asked) (stage : Stage)
    → IsFound known (whole n asked) → after ≡ drop n known → stage ≡ (if asked.close then Closed else Open) → RestFront stage (after ++ follow) more → IsFront (known ++ follow) (asked ∷ more)
follows_front n known after follow asked more stage is cut to h =
    let w = whole_stays known follow n asked is in
    let rest : after ++ follow ≡ drop n (known ++ follow) = ap (λ (xs : List ℕ). xs ++ follow) cut ∙ sym (drop-append-le n known follow w.1) in (
      n,
      w.0,
      test_from _ _ asked.close
          (λ yes'. subst (λ (s : Stage). RestFront s (after ++ follow) more) (to ∙ ap (λ (t : Bool). if t then Closed else Open) yes') h)
          (λ no'. subst (λ (xs : List ℕ). IsFront xs more) rest (subst (λ (s : Stage). RestFront s (after ++ follow) more) (to ∙ ap (λ (t : Bool). if t then Closed else Open) no') h)),
    )

last_more : (requests : List Asked) (asked : Asked) → is_last (requests ++ asked ∷ []) ≡ asked.close
last_more [] asked = refl
last_more (a ∷ []) asked = refl
last_more (a ∷ b ∷ more) asked = last_more (b ∷ more) asked

closed_last : (t : Bool) (stage : Stage) → stage ≡ (if t then Closed else Open) → stage ≡ Closed → t ≡ true
closed_last true stage e f = refl
closed_last false stage e f = let h : Open ≡ Closed = sym e ∙ f in absurd (no_open h)
  where
    no_open : Open ≡ Closed → ⊥
    no_open h = cc

not_spent : (t : Bool) (stage : Stage) → stage ≡ (if t then Closed else Open) → stage ≡ Spent → ⊥
not_spent true stage e f = let h : Closed ≡ Spent = sym e ∙ f in cc
not_spent false stage e f = let h : Open ≡ Spent = sym e ∙ f in cc

-- one request more, of an open connection
heard_open : (left_old left_mid left_new : Option (List ℕ)) (old new : Reading) (requests : List Asked) (asked : Asked) (piece : List ℕ) (at_end : Type 0) → Heard left_old left_mid old requests
    → old.stage ≡ Open → Consumes left_mid left_new piece → new.taken ≡ old.taken + length piece → Gives (old.pending ++ piece) (Ok (Some asked)) new at_end
    → Heard left_old left_new new (requests ++ asked ∷ []) × (old.taken - length old.pending < new.taken - length new.pending)
heard_open left_old left_mid left_new old new requests asked piece at_end s is_open from size g =
    let known = old.pending ++ piece in
    let w = whole_stays known [] g.0 asked g.1 in
    let lengths : length new.pending ≡ length known - g.0 = ap length g.2 ∙ length-drop g.0 known in
    let sum = length-append old.pending piece in
    let held = s.held in
    let room : length new.pending ≤ new.taken = omega (arith, lengths, sum, size, held, w.1) in (
      record {
        bytes = s.bytes ++ piece;
        from = Consumes-trans left_old left_mid left_new s.bytes piece s.from from;
        size = omega (arith, s.size, size, length-append s.bytes piece);
        held = room;
        alive = not_spent asked.close new.stage g.3;
        goes = λ full follow more end h.
            let f = follows full g.0 known new.pending follow asked more end new.stage g.1 g.2 g.3 h in
            let f' : IsTalk full (old.pending ++ (piece ++ follow)) (asked ∷ more) end = subst (λ (xs : List ℕ). IsTalk full xs (asked ∷ more) end) (append_assoc old.pending piece follow) f in
            let all = s.goes full (piece ++ follow) (asked ∷ more) end (subst (λ (st : Stage). RestAt st full (old.pending ++ (piece ++ follow)) (asked ∷ more) end) (sym is_open) f') in
            subst (λ (xs : List ℕ). IsTalk full xs ((requests ++ asked ∷ []) ++ more) end) (sym (append_assoc s.bytes piece follow))
            (subst (λ (rs : List Asked). IsTalk full (s.bytes ++ (piece ++ follow)) rs end) (sym (append_assoc requests (asked ∷ []) more)) all);
        front = λ follow more h.
            let f = follows_front g.0 known new.pending follow asked more new.stage g.1 g.2 g.3 h in
            let f' : IsFront (old.pending ++ (piece ++ follow)) (asked ∷ more) = subst (λ (xs : List ℕ). IsFront xs (asked ∷ more)) (append_assoc old.pending piece follow) f in
            let all = s.front (piece ++ follow) (asked ∷ more) (subst (λ (st : Stage). RestFront st (old.pending ++ (piece ++ follow)) (asked ∷ more)) (sym is_open) f') in
            subst (λ (xs : List ℕ). IsFront xs ((requests ++ asked ∷ []) ++ more)) (sym (append_assoc s.bytes piece follow))
            (subst (λ (rs : List Asked). IsFront (s.bytes ++ (piece ++ follow)) rs) (sym (append_assoc requests (asked ∷ []) more)) all);
        last = λ e. last_more requests asked ∙ closed_last asked.close new.stage g.3 e;
      },
      omega (arith, lengths, sum, size, held, w.1, w.2),
    )

-- one request more
pub heard : (left_old left_mid left_new : Option (List ℕ)) (stage : Stage) (old new : Reading) (requests : List Asked) (o : Option Asked) (asked : Asked) (at_end : Type 0) → Heard left_old left_mid old requests
    → old.stage ≡ stage → o ≡ Some asked → (x : List ℕ) × Consumes left_mid left_new x × GivesAt stage old x (Ok o) new at_end
    → Heard left_old left_new new (requests ++ asked ∷ []) × (old.taken - length old.pending < new.taken - length new.pending)
heard left_old left_mid left_new Open old new requests o asked at_end s is some g =
    heard_open left_old left_mid left_new old new requests asked g.0 at_end s is g.1 g.2.0 (subst (λ (o : Option Asked). Gives (old.pending ++ g.0) (Ok o) new at_end) some g.2.1)
heard left_old left_mid left_new Closed old new requests o asked at_end s is some g = absurd (ok_some_none o asked some g.2.1)
  where
    ok_some_none : (o : Option Asked) (asked : Asked) → o ≡ Some asked → ◌≡◌ {A = Result (Option Asked) HttpFault} (Ok o) (Ok None) → ⊥
    ok_some_none o asked e f = cc
heard left_old left_mid left_new Spent old new requests o asked at_end s is some g = absurd (s.alive is)

-- the end between two requests
pub ended : (left_old left_mid left_new : Option (List ℕ)) (stage : Stage) (old new : Reading) (requests : List Asked) (o : Option Asked) (at_end : Type 0) → Heard left_old left_mid old requests
    → old.stage ≡ stage → o ≡ None → (x : List ℕ) × Consumes left_mid left_new x × GivesAt stage old x (Ok o) new at_end
    → (x : List ℕ) × Consumes left_old left_new x × IsSession x requests None × (at_end ⊎ is_last requests ≡ true) × (new.taken ≡ length x)
ended left_old left_mid left_new Open old new requests o at_end s is none g =
    let given = subst (λ (o : Option Asked). Gives (old.pending ++ g.0) (Ok o) new at_end) none g.2.1 in
    let all = s.bytes ++ g.0 in
    let size : new.taken ≡ length all = omega (arith, s.size, g.2.0, length-append s.bytes g.0) in
    let end = subst (λ (n : ℕ). IsEnd (is_full n) (old.pending ++ g.0) None) size given.0 in
    let talk = s.goes (is_full (length all)) g.0 [] None (subst (λ (st : Stage). RestAt st (is_full (length all)) (old.pending ++ g.0) [] None) (sym is) end) in
    (all, Consumes-trans left_old left_mid left_new s.bytes g.0 s.from g.1, subst (λ (rs : List Asked). IsSession all rs None) (append-nil requests) talk, inl given.3, size)
ended left_old left_mid left_new Closed old new requests o at_end s is none g =
    let all = s.bytes ++ g.0 in
    let talk = s.goes (is_full (length all)) g.0 [] None (subst (λ (st : Stage). RestAt st (is_full (length all)) (old.pending ++ g.0) [] None) (sym is) (refl, refl)) in (
      all,
      Consumes-trans left_old left_mid left_new s.bytes g.0 s.from g.1,
      subst (λ (rs : List Asked). IsSession all rs None) (append-nil requests) talk,
      inr (s.last is),
      ap (λ (r : Reading). r.taken) g.2.2 ∙ s.size ∙ ap length (sym (ap (λ (l : List ℕ). s.bytes ++ l) g.2.0 ∙ append-nil s.bytes)),
    )
ended left_old left_mid left_new Spent old new requests o at_end s is none g = absurd (s.alive is)

-- the front of the bytes, as the session stands
pub front_of : (left_old left_new : Option (List ℕ)) (conn : Reading) (requests : List Asked) (s : Heard left_old left_new conn requests) (piece : List ℕ) → conn.stage ≡ Open → IsFront (s.bytes ++ piece) requests
front_of left_old left_new conn requests s piece is =
    subst (λ (rs : List Asked). IsFront (s.bytes ++ piece) rs) (append-nil requests) (s.front piece [] (subst (λ (st : Stage). RestFront st (conn.pending ++ piece) []) (sym is) tt))

whole_by : (bytes known : List ℕ) (taken : ℕ) (requests : List Asked) (at_end : Type 0) (fault : HttpFault) → IsFault known taken at_end fault
    → ((end : Option HttpFault) → IsEnd (is_full taken) known end → IsSession bytes requests end) → IsFront bytes requests → IsWholeBy bytes requests (Err fault)
whole_by bytes known taken requests at_end ReadFault f to front = (end_of (is_full taken) (part f.0), to (end_of (is_full taken) (part f.0)) (part f.0, f.1, refl, refl))
whole_by bytes known taken requests at_end Memory f to front = front
whole_by bytes known taken requests at_end (Cut n) f to front = to (Some (Cut n)) f.0
whole_by bytes known taken requests at_end SpentFault f to front = absurd f
whole_by bytes known taken requests at_end SessionLong f to front = to (Some SessionLong) f.0
whole_by bytes known taken requests at_end HeadTooLong f to front = to (Some HeadTooLong) f.0
whole_by bytes known taken requests at_end BadHead f to front = to (Some BadHead) f.0
whole_by bytes known taken requests at_end ChunkedBody f to front = to (Some ChunkedBody) f.0
whole_by bytes known taken requests at_end NoLength f to front = to (Some NoLength) f.0
whole_by bytes known taken requests at_end BodyTooLong f to front = to (Some BodyTooLong) f.0
whole_by bytes known taken requests at_end NoRoute f to front = to (Some NoRoute) f.0
whole_by bytes known taken requests at_end BadMethod f to front = to (Some BadMethod) f.0

-- nothing is left where a request is cut, and the fault isn't that the connection is spent
told_end : (known : List ℕ) (taken : ℕ) (at_end : Type 0) (fault : HttpFault) → IsFault known taken at_end fault → EndsAt at_end fault × IsAlive fault
told_end known taken at_end ReadFault f = (tt, tt)
told_end known taken at_end Memory f = (tt, tt)
told_end known taken at_end (Cut n) f = (f.1, tt)
told_end known taken at_end SpentFault f = absurd f
told_end known taken at_end SessionLong f = (tt, tt)
told_end known taken at_end HeadTooLong f = (tt, tt)
told_end known taken at_end BadHead f = (tt, tt)
told_end known taken at_end ChunkedBody f = (tt, tt)
told_end known taken at_end NoLength f = (tt, tt)
told_end known taken at_end BodyTooLong f = (tt, tt)
told_end known taken at_end NoRoute f = (tt, tt)
told_end known taken at_end BadMethod f = (tt, tt)

-- the end by a fault
pub faulted : (left_old left_mid left_new : Option (List ℕ)) (stage : Stage) (old new : Reading) (requests : List Asked) (fault : HttpFault) (at_end : Type 0) → Heard left_old left_mid old requests
    → old.stage ≡ stage → (x : List ℕ) × Consumes left_mid left_new x × GivesAt stage old x (Err fault) new at_end
    → (x : List ℕ) × Consumes left_old left_new x × IsWholeBy x requests (Err fault) × (new.taken ≡ length x) × EndsAt at_end fault × IsAlive fault
faulted left_old left_mid left_new Open old new requests fault at_end s is g =
    let all = s.bytes ++ g.0 in
    let size : new.taken ≡ length all = omega (arith, s.size, g.2.0, length-append s.bytes g.0) in
    let told : (o : Option HttpFault) → IsEnd (is_full new.taken) (old.pending ++ g.0) o → IsSession all requests o = λ o e.
    let end = subst (λ (n : ℕ). IsEnd (is_full n) (old.pending ++ g.0) o) size e in
    let talk = s.goes (is_full (length all)) g.0 [] o (subst (λ (st : Stage). RestAt st (is_full (length all)) (old.pending ++ g.0) [] o) (sym is) end) in
    subst (λ (rs : List Asked). IsSession all rs o) (append-nil requests) talk in
    let t = told_end (old.pending ++ g.0) new.taken at_end fault g.2.1.0 in
    (all, Consumes-trans left_old left_mid left_new s.bytes g.0 s.from g.1, whole_by all (old.pending ++ g.0) new.taken requests at_end fault g.2.1.0 told (front_of left_old left_mid old requests s g.0 is), size, t.0, t.1)
faulted left_old left_mid left_new Closed old new requests fault at_end s is g = absurd (err_ok fault g.2.1)
  where
    err_ok : (fault : HttpFault) → ◌≡◌ {A = Result (Option Asked) HttpFault} (Err fault) (Ok None) → ⊥
    err_ok fault e = cc
faulted left_old left_mid left_new Spent old new requests fault at_end s is g = absurd (s.alive is)

-- what was taken so far begins with the requests so far
pub front_now : (left_old left_new : Option (List ℕ)) (conn : Reading) (requests : List Asked) (s : Heard left_old left_new conn requests) → IsFront s.bytes requests
front_now left_old left_new conn requests s =
    subst₂ (λ (bs : List ℕ) (rs : List Asked). IsFront bs rs) (append-nil s.bytes) (append-nil requests) (s.front [] [] (rest conn.stage refl))
  where
    rest : (stage : Stage) → conn.stage ≡ stage → RestFront conn.stage (conn.pending ++ []) []
    rest Open is = subst (λ (st : Stage). RestFront st (conn.pending ++ []) []) (sym is) tt
    rest Closed is = subst (λ (st : Stage). RestFront st (conn.pending ++ []) []) (sym is) refl
    rest Spent is = absurd (s.alive is)
