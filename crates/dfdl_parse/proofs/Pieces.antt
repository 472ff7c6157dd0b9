-- What a session promises of a piece, of the end of the data and of the next document.
use Rattle.std.proofs.Common.{◌≡◌, ℕ, ◌+◌, ◌-◌, ◌*◌, ◌/◌, ◌<◌, ◌≤◌, ◌⊎◌, inl, inr, max, not, refl, List, [], ◌∷◌, ◌++◌, length, map, take, Bool, true, false, ap, sym, subst, ◌∙◌, arith, length-append}
use Rattle.std.proofs.lemmas.List.{append-nil, get_or-take, get_or_append_left, length-take-le}
use Rattle.std.proofs.Math.Seq.{take-append-add}
use Rattle.dfdl_bits.specs.Window.{Held, end_of, from_byte, up_to_byte, with_more}
use Rattle.dfdl_looks.specs.Looks.{Agrees}
use Rattle.dfdl_terms.specs.Rows.{Table}
use Rattle.dfdl_grammar.specs.declared.limits.Limits.{Limits}
use Rattle.dfdl_grammar.specs.declared.end.End.TheVariants.{Done, Failed, Stopped}
use Rattle.dfdl_grammar.specs.declared.end.Halt.TheVariants.{Limit, Variable}
use Rattle.dfdl_grammar.specs.declared.mark.Mark.{Mark}
use Rattle.dfdl_grammar.specs.States.{State}
use Rattle.dfdl_grammar.specs.Documents.{document_from, front_at}
use Rattle.dfdl_parse.specs.declared.frame.Frame.{Frame}
use Rattle.dfdl_parse.specs.declared.frame.Focus.{Focus}
use Rattle.dfdl_parse.specs.declared.frame.Focus.TheVariants.{Enter, Pass, PassRest, Sized, Seek, LookIn, LookBehind, Count, Leave}
use Rattle.dfdl_parse.specs.declared.outcome.Fed.TheVariants.{Done as FedDone}
use Rattle.dfdl_parse.specs.declared.outcome.Outcome.TheVariants.{Done as AllDone}
use Rattle.dfdl_parse.specs.declared.session.Session.{Session}
use Rattle.dfdl_parse.specs.Machines.{HasEnded}
use Rattle.dfdl_parse.specs.Answers.{answer_at}
use Rattle.dfdl_parse.specs.Opens.{AreOpen, NeedsFrom}
use Rattle.dfdl_parse.specs.Shown.{HasSameLimits, KeepsTo, shown, state_of}
use Rattle.dfdl_parse.specs.Runs.{Runs}
use Rattle.dfdl_parse.specs.Running.{Advanced, Reaches, Slid, Waited}
use Rattle.dfdl_parse.specs.Registered.{IsRegistered}
use Rattle.dfdl_parse.specs.Sessions.{CanFollow, ComesTo, Ends, Finished, HasTaken, IsReady, IsSound, StandsFor, byte_behind, document_of, input_of, still_needed}
use Rattle.dfdl_parse.proofs.Opens.{some-mark}
use Rattle.dfdl_parse.proofs.Feeds.{fed, over, stands_first, told}
use Rattle.dfdl_parse.proofs.Windows.{agrees_from, end_from}

-- a session that hasn't lost can take a piece
pub ready_when : (lost : Bool) (s : Session) → (lost ≡ true) ⊎ IsReady s → not lost ≡ true → IsReady s
ready_when true s ready on = absurd (cc)
ready_when false s (inl lost) on = absurd (cc)
ready_when false s (inr ready) on = ready

-- a session keeps to its limits
keeps_to : (s : Session) → IsSound s → KeepsTo s.parser s.limits
keeps_to s sound = (sym sound.nodes, sym sound.text)

-- the work as before, with these limits and rows, on the document that begins at this byte
abbrev WorksOn : Session → Limits → Table → ℕ → ℕ → List ℕ → Type 0
WorksOn s limits table first looks bytes =
    Runs (record { bytes = bytes; limits = limits }) table (document_from limits table first bytes) (shown s.parser) s.sight looks s.parser.far

pub stands_as : (s : Session) (limits : Limits) (table : Table) (first start : ℕ) → s.limits ≡ limits → s.terms.now ≡ table → s.start ≡ first → first ≡ start
    → (stream : List ℕ) (steps allowed looks : ℕ)
    → ((more : List ℕ) → CanFollow s more → WorksOn s limits table first looks (stream ++ more)) → steps ≡ looks + allowed → length stream ≡ end_of s.sight
    → StandsFor s stream start steps allowed
stands_as s limits table first start same rows begins is stream steps allowed looks runs counted all = record {
  begins = begins ∙ is;
  looks = looks;
  runs = λ more can.
      let here : WorksOn s s.limits table first looks (stream ++ more) = subst (λ (l : Limits). WorksOn s l table first looks (stream ++ more)) (sym same) (runs more can) in
      let there : WorksOn s s.limits s.terms.now first looks (stream ++ more) = subst (λ (t : Table). WorksOn s s.limits t first looks (stream ++ more)) (sym rows) here in
      subst (λ (n : ℕ). WorksOn s s.limits s.terms.now n looks (stream ++ more)) (sym begins) there;
  counted = counted;
  taken = record { agrees = λ more can. (runs more can).agrees; all = all };
}

module _ (old : Session) (piece : List ℕ) (sight : Held) (sound : IsSound old) (on : old.sight.ended ≡ false) (is : sight ≡ with_more old.sight piece)
    (stream : List ℕ) (start spent allowed : ℕ) (stands : StandsFor old stream start spent allowed) where
  abbrev RunsIn : Held → List ℕ → Type 0
  RunsIn held bytes = Runs (input_of old bytes) old.terms.now (document_of old bytes) (shown old.parser) held stands.looks old.parser.far

  -- the machine stands in the work on the stream with the piece
  fed_at : (more : List ℕ) → RunsIn sight ((stream ++ piece) ++ more)
  fed_at more =
      subst (λ (h : Held). RunsIn h ((stream ++ piece) ++ more)) (sym is)
      (fed old.limits old.terms.now old.parser old.sight old.start stream stands.taken.all stands.looks on piece more
      (stands.runs (piece ++ more) (λ ended. absurd (cc))))

  whole : length (stream ++ piece) ≡ end_of sight
  whole =
      let size = length-append stream piece in
      let held_size = length-append old.sight.bytes piece in
      let all = stands.taken.all in
      let there : length (stream ++ piece) ≡ end_of (with_more old.sight piece) = omega arith in
      there ∙ ap end_of (sym is)

  module _ (new : Session) (looks_made : ℕ) (limits : new.limits ≡ old.limits) (rows : new.terms.now ≡ old.terms.now)
      (begins : new.start ≡ old.start) (memory : new.lost ≡ false) where
    lost : (waited : Waited old.terms.now old.parser new.parser sight new.sight looks_made)
        → (end_of sight < (document_of old (stream ++ piece)).tally.far)
        × (((document_of old (stream ++ piece)).tally.tail ≡ waited.vain)
        × (length new.sight.bytes ≡ end_of new.sight - (document_of old (stream ++ piece)).tally.anchor))
    lost waited =
        let here : RunsIn sight (stream ++ piece) = subst (λ (bytes : List ℕ). RunsIn sight bytes) (append-nil (stream ++ piece)) (fed_at []) in
        waited.missed (input_of old (stream ++ piece)) (document_of old (stream ++ piece)) stands.looks (keeps_to old sound) here whole

    pub fed_far : Waited old.terms.now old.parser new.parser sight new.sight looks_made
        → length (stream ++ piece) < (document_of old (stream ++ piece)).tally.far
    fed_far waited = subst (λ (n : ℕ). n < (document_of old (stream ++ piece)).tally.far) (sym whole) (lost waited).0

    pub fed_held : Waited old.terms.now old.parser new.parser sight new.sight looks_made
        → length new.sight.bytes ≡ still_needed old (stream ++ piece)
    fed_held waited =
        (lost waited).1.1
        ∙ ap (λ (n : ℕ). n - (document_of old (stream ++ piece)).tally.anchor) (waited.advanced.slid.end ∙ sym whole)

    pub fed_more : Waited old.terms.now old.parser new.parser sight new.sight looks_made
        → StandsFor new (stream ++ piece) start (spent + looks_made) (allowed + (document_of old (stream ++ piece)).tally.tail)
    fed_more waited =
        let counted = stands.counted in
        let few = waited.few in
        let tail : (document_of old (stream ++ piece)).tally.tail ≡ waited.vain = (lost waited).1.0 in
        stands_as new old.limits old.terms.now old.start start limits rows begins stands.begins (stream ++ piece) (spent + looks_made)
        (allowed + (document_of old (stream ++ piece)).tally.tail) (stands.looks + (looks_made - waited.vain))
        (λ more can. waited.advanced.runs (input_of old ((stream ++ piece) ++ more)) (document_of old ((stream ++ piece) ++ more)) stands.looks
        (keeps_to old sound) (fed_at more))
        (omega arith) (whole ∙ sym waited.advanced.slid.end)

    pub fed_done : Advanced old.terms.now old.parser new.parser sight new.sight looks_made → HasEnded new.parser.focus new.parser.stack
        → ComesTo old new (stream ++ piece) (spent + looks_made) allowed
    fed_done advanced ended_here =
        let counted = stands.counted in
        record {
          outcome = λ more.
              let runs = advanced.runs (input_of old ((stream ++ piece) ++ more)) (document_of old ((stream ++ piece) ++ more)) stands.looks
              (keeps_to old sound) (fed_at more) in
              let all = over (input_of old ((stream ++ piece) ++ more)) old.terms.now (document_of old ((stream ++ piece) ++ more)) new.parser new.sight
              (stands.looks + looks_made) ended_here runs in
              let looks : stands.looks + looks_made ≡ (document_of old ((stream ++ piece) ++ more)).tally.looks = all.looks in
              record { focus = all.focus; stack = all.stack; state = all.state; far = all.far; steps_are = omega arith; memory = memory };
          within =
              let runs = advanced.runs (input_of old ((stream ++ piece) ++ [])) (document_of old ((stream ++ piece) ++ [])) stands.looks
              (keeps_to old sound) (fed_at []) in
              let still : new.sight.ended ≡ false = advanced.slid.ended ∙ ap (λ (h : Held). h.ended) is ∙ on in
              let far : new.parser.far ≤ end_of new.sight = (runs.found still).1 in
              let ends : end_of new.sight ≡ length (stream ++ piece) = advanced.slid.end ∙ sym whole in
              omega arith;
          taken = record {
            agrees = λ more can.
                let runs = advanced.runs (input_of old ((stream ++ piece) ++ more)) (document_of old ((stream ++ piece) ++ more)) stands.looks
                (keeps_to old sound) (fed_at more) in
                runs.agrees;
            all = whole ∙ sym advanced.slid.end;
          };
        }

-- the end of the data
module _ (old new : Session) (sight : Held) (looks_made : ℕ) (sound : IsSound old) (memory : new.lost ≡ false) (is : sight ≡ record old.sight { ended = true })
    (stream : List ℕ) (start spent allowed : ℕ) (stands : StandsFor old stream start spent allowed) where
  module _ (advanced : Advanced old.terms.now old.parser new.parser sight new.sight looks_made) where
    -- the machine stands in the work on the stream, which is all
    told_at : Runs (input_of old stream) old.terms.now (document_of old stream) (shown new.parser) new.sight (stands.looks + looks_made) new.parser.far
    told_at =
        advanced.runs (input_of old stream) (document_of old stream) stands.looks (keeps_to old sound)
        (subst (λ (h : Held). Runs (input_of old stream) old.terms.now (document_of old stream) (shown old.parser) h stands.looks old.parser.far) (sym is)
        (told old.limits old.terms.now old.parser old.sight old.start stream stands.taken.all stands.looks (stands.runs [] (λ ended. refl))))

    ended_done : HasEnded new.parser.focus new.parser.stack → Ends new (document_of old stream) (spent + looks_made) allowed
    ended_done ended_here =
        let counted = stands.counted in
        let all = over (input_of old stream) old.terms.now (document_of old stream) new.parser new.sight (stands.looks + looks_made) ended_here told_at in
        let looks : stands.looks + looks_made ≡ (document_of old stream).tally.looks = all.looks in
        record { focus = all.focus; stack = all.stack; state = all.state; far = all.far; steps_are = omega arith; memory = memory }

    ended_taken : HasTaken new stream
    ended_taken =
        let off : new.sight.ended ≡ true = advanced.slid.ended ∙ ap (λ (h : Held). h.ended) is in
        record {
          agrees = λ more can. subst (λ (bytes : List ℕ). Agrees new.sight bytes) (sym (append-nil stream) ∙ ap (λ (xs : List ℕ). stream ++ xs) (sym (can off))) told_at.agrees;
          all = stands.taken.all ∙ sym (ap end_of is) ∙ sym advanced.slid.end;
        }

  -- a machine over all data doesn't wait
  never : Waited old.terms.now old.parser new.parser sight new.sight looks_made → ⊥
  never waited = let off : sight.ended ≡ true = ap (λ (h : Held). h.ended) is in let on : sight.ended ≡ false = waited.ended in cc

  pub ended : (waits : Bool) → (waits ≡ true → Waited old.terms.now old.parser new.parser sight new.sight looks_made)
      → (waits ≡ false → Advanced old.terms.now old.parser new.parser sight new.sight looks_made)
      → (waits ≡ false → HasEnded new.parser.focus new.parser.stack)
      → Ends new (document_of old stream) (spent + looks_made) allowed × HasTaken new stream
  ended true waited advanced over_here = absurd (never (waited refl))
  ended false waited advanced over_here = (ended_done (advanced refl) (over_here refl), ended_taken (advanced refl))

-- a machine that is done
done_at : (focus : Focus) (k : List Frame) → answer_at focus k ≡ AllDone → (focus ≡ Leave Done) × (k ≡ [])
done_at (Enter id) k is = absurd (cc)
done_at (Pass to) k is = absurd (cc)
done_at (PassRest bit outer) k is = absurd (cc)
done_at (Sized prim size) k is = absurd (cc)
done_at (Seek what) k is = absurd (cc)
done_at (LookIn slot) k is = absurd (cc)
done_at (LookBehind slot bit) k is = absurd (cc)
done_at (Count slot question) k is = absurd (cc)
done_at (Leave Done) [] is = (refl, refl)
done_at (Leave (Failed cause bit)) [] is = absurd (cc)
done_at (Leave (Stopped (Limit cause) quantity)) [] is = absurd (cc)
done_at (Leave (Stopped (Variable cause) quantity)) [] is = absurd (cc)
done_at (Leave end) (frame ∷ k) is = absurd (cc)

none_open : (base at : ℕ) (marks : List Mark) → AreOpen base at [] marks → marks ≡ []
none_open base at [] opens = refl
none_open base at (mark ∷ outer) opens = some-mark mark.is_point (map (λ m. m.is_point) outer) (sym opens.0.0)

-- a session that is done, before the next document
module _ (s : Session) (sound : IsSound s) (done : answer_at s.parser.focus s.parser.stack ≡ AllDone) where
  low : NeedsFrom s.sight.base (Leave Done) [] (state_of s.parser)
  low =
      subst (λ (k : List Frame). NeedsFrom s.sight.base (Leave Done) k (state_of s.parser)) (done_at s.parser.focus s.parser.stack done).1
      (subst (λ (f : Focus). NeedsFrom s.sight.base f s.parser.stack (state_of s.parser)) (done_at s.parser.focus s.parser.stack done).0 sound.low)

  pub done_stack : s.parser.stack ≡ []
  done_stack = (done_at s.parser.focus s.parser.stack done).1

  pub done_marks : s.parser.marks ≡ []
  done_marks = none_open s.sight.base s.parser.at s.parser.marks low.1

  pub done_base : s.sight.base ≤ byte_behind s.parser.at
  done_base = let here : s.sight.base ≤ s.parser.at / 8 = low.0 in omega arith

  pub done_end : byte_behind s.parser.at ≤ end_of s.sight
  done_end = let at = sound.at in omega arith

-- the next document
module _ (old new : Session) (done : answer_at old.parser.focus old.parser.stack ≡ AllDone) (sound : IsSound old)
    (begins : new.start ≡ byte_behind old.parser.at) (is : new.sight ≡ from_byte old.sight (byte_behind old.parser.at))
    (limits : new.limits ≡ old.limits) (rows : new.terms.now ≡ old.terms.now) (focus : new.parser.focus ≡ Enter (length old.terms.now.rows - 1))
    (stack : new.parser.stack ≡ []) (front_is : state_of new.parser ≡ front_at old.terms.now (byte_behind old.parser.at)) where
  abbrev start : ℕ
  start = byte_behind old.parser.at

  ends : end_of new.sight ≡ end_of old.sight
  ends = ap end_of is ∙ end_from old.sight start (done_base old sound done) (done_end old sound done)

  pub next_stands : new.parser.far ≡ 0 → (stream : List ℕ) → HasTaken old stream → StandsFor new stream start 0 0
  next_stands far stream taken =
      stands_as new old.limits old.terms.now start start limits rows begins refl stream 0 0 0
      (λ more can.
      stands_first old.limits old.terms.now new.parser new.sight start (stream ++ more) focus stack front_is far
      (subst (λ (h : Held). Agrees h (stream ++ more)) (sym is)
      (agrees_from old.sight (stream ++ more) start (done_base old sound done) (done_end old sound done)
      (taken.agrees more (λ ended. can (ap (λ (h : Held). h.ended) is ∙ ended)))))
      (ap (λ (h : Held). h.size) is ∙ sound.window))
      refl (taken.all ∙ sym ends)

  pub next_sound : new.parser.far ≡ 0 → HasSameLimits old.parser new.parser → IsRegistered old.terms.now new.parser → new.lost ≡ old.lost → IsSound new
  next_sound far most registered memory =
      let at : new.parser.at ≡ 8 * start = ap (λ (s : State). s.at) front_is in
      let within = done_end old sound done in
      record {
        some = subst (λ (l : Limits). 1 ≤ l.window) (sym limits) sound.some;
        seen = λ on. omega arith;
        low = subst (λ (f : Focus). NeedsFrom new.sight.base f new.parser.stack (state_of new.parser)) (sym focus)
            (subst (λ (k : List Frame). NeedsFrom new.sight.base (Enter (length old.terms.now.rows - 1)) k (state_of new.parser)) (sym stack)
            (subst (λ (s : State). NeedsFrom new.sight.base (Enter (length old.terms.now.rows - 1)) [] s) (sym front_is)
            (let base : new.sight.base ≡ start = ap (λ (h : Held). h.base) is in omega arith, ((refl, tt), tt))));
        at = omega (arith, ends);
        registered = subst (λ (t : Table). IsRegistered t new.parser) (sym rows) registered;
        window = ap (λ (h : Held). h.size) is ∙ sound.window ∙ ap (λ (l : Limits). l.window) (sym limits);
        nodes = most.0 ∙ sound.nodes ∙ ap (λ (l : Limits). l.nodes) (sym limits);
        text = most.1.0 ∙ sound.text ∙ ap (λ (l : Limits). l.text) (sym limits);
        memory = memory ∙ sound.memory;
      }

-- a window that gives up bytes at its end holds a part of the data without them, whatever comes behind
cut_agrees : (held : Held) (whole more : List ℕ) (k : ℕ) → held.ended ≡ false → held.base ≤ k → k ≤ end_of held → Agrees held whole
    → Agrees (up_to_byte held k) (take k whole ++ more)
cut_agrees held whole more k on base end agrees =
    let within = agrees.within in
    let cut : length (take (k - held.base) held.bytes) ≡ k - held.base = length-take-le (k - held.base) held.bytes (omega arith) in
    let size : length (take k whole) ≡ k = length-take-le k whole (omega arith) in
    let all = length-append (take k whole) more in
    record {
      bytes = λ i less.
          let few : i < k - held.base = omega arith in
          let inside : i < length held.bytes = omega arith in
          let before : held.base + i < k = omega arith in
          get_or-take (k - held.base) held.bytes i 0 few ∙ agrees.bytes i inside ∙ sym (get_or-take k whole (held.base + i) 0 before)
          ∙ sym (get_or_append_left (take k whole) more 0 (held.base + i) (omega arith));
      within = omega arith;
      all = λ ended. absurd (cc);
    }

-- a machine that has ended has given up no byte behind the last that it looked at
ended_reaches : (last : ℕ) (held : Held) (focus : Focus) (k : List Frame) (s : State) → HasEnded focus k → Reaches last held focus s → (held.base ≤ last) × (s.at ≤ 8 * last)
ended_reaches last held (Enter id) k s over_here reaches = absurd over_here
ended_reaches last held (Pass to) k s over_here reaches = absurd over_here
ended_reaches last held (PassRest bit outer) k s over_here reaches = absurd over_here
ended_reaches last held (Sized prim size) k s over_here reaches = absurd over_here
ended_reaches last held (Seek what) k s over_here reaches = absurd over_here
ended_reaches last held (LookIn slot) k s over_here reaches = absurd over_here
ended_reaches last held (LookBehind slot bit) k s over_here reaches = absurd over_here
ended_reaches last held (Count slot question) k s over_here reaches = absurd over_here
ended_reaches last held (Leave told) k s over_here reaches = reaches

-- before a piece the window holds what it holds
reaches_now : (s : Session) (focus : Focus) → IsSound s → Reaches (end_of s.sight) s.sight focus (state_of s.parser)
reaches_now s (Enter id) sound = sound.at
reaches_now s (Pass to) sound = sound.at
reaches_now s (PassRest bit outer) sound = sound.at
reaches_now s (Sized prim size) sound = sound.at
reaches_now s (Seek what) sound = sound.at
reaches_now s (LookIn slot) sound = sound.at
reaches_now s (LookBehind slot bit) sound = sound.at
reaches_now s (Count slot question) sound = sound.at
reaches_now s (Leave told) sound = (omega arith, sound.at)

-- and comes to no byte behind those, or behind the last that it looks at
reaches_behind : (old mid : Session) (before : ℕ) → before ≡ end_of old.sight → IsSound old → HasEnded mid.parser.focus mid.parser.stack
    → ((last : ℕ) → Reaches last old.sight old.parser.focus (state_of old.parser) → Reaches (max last mid.parser.far) mid.sight mid.parser.focus (state_of mid.parser))
    → (mid.sight.base ≤ max before mid.parser.far) × (mid.parser.at ≤ 8 * max before mid.parser.far)
reaches_behind old mid before is sound over_here reaches =
    ended_reaches (max before mid.parser.far) mid.sight mid.parser.focus mid.parser.stack (state_of mid.parser) over_here
    (reaches before (subst (λ (n : ℕ). Reaches n old.sight old.parser.focus (state_of old.parser)) (sym is) (reaches_now old old.parser.focus sound)))

-- a session that can take a piece has run over it
module _ (old mid : Session) (sight : Held) (piece : List ℕ) (ready : IsReady old) (is : sight ≡ with_more old.sight piece) (slid : Slid sight mid.sight) where
  pub ran_on : mid.sight.ended ≡ false
  ran_on = slid.ended ∙ ap (λ (h : Held). h.ended) is ∙ ready.ended

  pub ran_end : end_of mid.sight ≡ end_of old.sight + length piece
  ran_end =
      let size = length-append old.sight.bytes piece in
      let there : end_of (with_more old.sight piece) ≡ end_of old.sight + length piece = omega arith in
      slid.end ∙ ap end_of is ∙ there

  pub ran_sound : mid.limits ≡ old.limits → HasSameLimits old.parser mid.parser → (mid.sight.ended ≡ false → mid.parser.far ≤ end_of mid.sight)
      → NeedsFrom mid.sight.base mid.parser.focus mid.parser.stack (state_of mid.parser) → mid.parser.at ≤ 8 * end_of mid.sight
      → IsRegistered mid.terms.now mid.parser → mid.lost ≡ old.lost → IsSound mid
  ran_sound limits most seen low at registered memory = record {
    some = subst (λ (l : Limits). 1 ≤ l.window) (sym limits) ready.sound.some;
    seen = seen;
    low = low;
    at = at;
    registered = registered;
    window = slid.size ∙ ap (λ (h : Held). h.size) is ∙ ready.sound.window ∙ ap (λ (l : Limits). l.window) (sym limits);
    nodes = most.0 ∙ ready.sound.nodes ∙ ap (λ (l : Limits). l.nodes) (sym limits);
    text = most.1.0 ∙ ready.sound.text ∙ ap (λ (l : Limits). l.text) (sym limits);
    memory = memory ∙ ready.sound.memory;
  }

  -- a window with a piece more has given up no byte more
  reaches_more : (last : ℕ) (focus : Focus) (s : State) → Reaches last old.sight focus s → Reaches last sight focus s
  reaches_more last (Enter id) s at = at
  reaches_more last (Pass to) s at = at
  reaches_more last (PassRest bit outer) s at = at
  reaches_more last (Sized prim size) s at = at
  reaches_more last (Seek what) s at = at
  reaches_more last (LookIn slot) s at = at
  reaches_more last (LookBehind slot bit) s at = at
  reaches_more last (Count slot question) s at = at
  reaches_more last (Leave told) s reaches = (subst (λ (h : Held). h.base ≤ last) (sym is) reaches.0, reaches.1)

  pub ran_reaches : (before : ℕ) → before ≡ end_of old.sight → HasEnded mid.parser.focus mid.parser.stack
      → ((last : ℕ) → Reaches last sight old.parser.focus (state_of old.parser) → Reaches (max last mid.parser.far) mid.sight mid.parser.focus (state_of mid.parser))
      → (mid.sight.base ≤ max before mid.parser.far) × (mid.parser.at ≤ 8 * max before mid.parser.far)
  ran_reaches before at over_here reaches =
      reaches_behind old mid before at ready.sound over_here
      (λ last there. reaches last (reaches_more last old.parser.focus (state_of old.parser) there))

-- the front of a stream with a piece, from the piece on
front_of : (stream piece : List ℕ) (k taken : ℕ) → k ≡ length stream + taken → take k (stream ++ piece) ≡ stream ++ take taken piece
front_of stream piece k taken is = ap (λ (n : ℕ). take n (stream ++ piece)) is ∙ take-append-add stream piece taken

-- a session that has come to an outcome with a piece gives back what it hasn't looked at
module _ (old mid new : Session) (piece : List ℕ) (before taken : ℕ) (is : before ≡ end_of old.sight) (sound : IsSound mid) (on : mid.sight.ended ≡ false)
    (reaches : (mid.sight.base ≤ max before mid.parser.far) × (mid.parser.at ≤ 8 * max before mid.parser.far)) (few : before ≤ end_of mid.sight)
    (held : new.sight ≡ up_to_byte mid.sight (max mid.parser.far before)) (same : new ≡ record mid { sight = new.sight })
    (takes : before + taken ≡ max mid.parser.far before) where
  kept_base : mid.sight.base ≤ max mid.parser.far before
  kept_base = let low = reaches.0 in omega arith

  kept_end : max mid.parser.far before ≤ end_of mid.sight
  kept_end = let seen = sound.seen on in omega arith

  now_ends : end_of new.sight ≡ max mid.parser.far before
  now_ends =
      let inside : max mid.parser.far before - mid.sight.base ≤ length mid.sight.bytes = omega (arith, kept_end, kept_base) in
      let cut : length (take (max mid.parser.far before - mid.sight.base) mid.sight.bytes) ≡ max mid.parser.far before - mid.sight.base =
      length-take-le (max mid.parser.far before - mid.sight.base) mid.sight.bytes inside in
      let there : end_of (up_to_byte mid.sight (max mid.parser.far before)) ≡ max mid.parser.far before = omega (arith, cut, kept_base) in
      ap end_of held ∙ there

  pub given_sound : IsSound new
  given_sound =
      let low_is : new.sight.base ≡ mid.sight.base = ap (λ (h : Held). h.base) held in
      let at_most = reaches.1 in
      let near : mid.parser.at ≤ 8 * end_of new.sight = omega (arith, now_ends, at_most) in
      subst IsSound (sym same) (record {
        some = sound.some;
        seen = λ still. omega (arith, now_ends);
        low = subst (λ (n : ℕ). NeedsFrom n mid.parser.focus mid.parser.stack (state_of mid.parser)) (sym low_is) sound.low;
        at = near;
        registered = sound.registered;
        window = ap (λ (h : Held). h.size) held ∙ sound.window;
        nodes = sound.nodes;
        text = sound.text;
        memory = sound.memory;
      })

  pub given_on : new.sight.ended ≡ false
  given_on = ap (λ (h : Held). h.ended) held ∙ on

  pub given_finished : (stream : List ℕ) (steps allowed : ℕ) → length stream ≡ end_of old.sight → end_of mid.sight ≡ end_of old.sight + length piece
      → ComesTo old mid (stream ++ piece) steps allowed → Finished old new stream piece taken steps allowed
  given_finished stream steps allowed all ends comes =
      let size = length-append stream piece in
      let whole : Ends mid (document_of old (stream ++ piece)) steps allowed =
      subst (λ (bytes : List ℕ). Ends mid (document_of old bytes) steps allowed) (append-nil (stream ++ piece)) (comes.outcome []) in
      let far : mid.parser.far ≡ (document_of old (stream ++ piece)).tally.far = whole.far in
      let within : taken ≤ length piece = omega (arith, kept_end) in
      let place : max mid.parser.far before ≡ length stream + taken = omega arith in
      let front : take (max mid.parser.far before) (stream ++ piece) ≡ stream ++ take taken piece =
      front_of stream piece (max mid.parser.far before) taken place in
      record {
        outcome = λ more.
            let here = comes.outcome more in
            subst (λ (s : Session). Ends s (document_of old ((stream ++ piece) ++ more)) steps allowed) (sym same)
            (record { focus = here.focus; stack = here.stack; state = here.state; far = here.far; steps_are = here.steps_are; memory = here.memory });
        within = within;
        far = omega arith;
        takes = record {
          agrees = λ more can.
              let there : Agrees mid.sight (stream ++ piece) =
              subst (λ (bytes : List ℕ). Agrees mid.sight bytes) (append-nil (stream ++ piece)) (comes.taken.agrees [] (λ ended. refl)) in
              subst (λ (h : Held). Agrees h ((stream ++ take taken piece) ++ more)) (sym held)
              (subst (λ (bytes : List ℕ). Agrees (up_to_byte mid.sight (max mid.parser.far before)) (bytes ++ more)) front
              (cut_agrees mid.sight (stream ++ piece) more (max mid.parser.far before) on kept_base kept_end there));
          all = sym (ap length front) ∙ length-take-le (max mid.parser.far before) (stream ++ piece) (omega (arith, kept_end)) ∙ sym now_ends;
        };
      }

-- one answer tells one number
pub done_taken : (a b : ℕ) → FedDone a ≡ FedDone b → a ≡ b
done_taken a b is = cc
