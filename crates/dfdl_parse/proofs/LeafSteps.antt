-- The steps of leaves and prefixes do a part of what is ahead.
use Rattle.std.proofs.Common.{◌≡◌, ℕ, ◌+◌, ◌*◌, ◌/◌, ◌%◌, ◌<◌, nat_eq, nat_le, ◌&&◌, refl, List, ◌∷◌, Bool, true, false, cond, Option, Some, None, ap, sym, ◌∙◌, arith}
use Rattle.std.specs.Prelude.{slice_get}
use Rattle.std.proofs.lemmas.Bool.Decides.{nat_tests}
use Rattle.dfdl_bits.specs.Window.{Held, from_byte, seen_at}
use Rattle.dfdl_report.specs.declared.cause.ParseCause.TheVariants.{LengthOutOfRange}
use Rattle.dfdl_forms.specs.Binary.{most_bits}
use Rattle.dfdl_forms.specs.Packed.{most_nibbles}
use Rattle.dfdl_forms.specs.Types.{form_of}
use Rattle.dfdl_value.specs.declared.value.Value.{Value}
use Rattle.dfdl_terms.specs.declared.row.Primitive.{Primitive}
use Rattle.dfdl_terms.specs.declared.row.Primitive.TheVariants.{Integer, Packed, Truth, Octets, Text, NilOctets, Default, NilValues, Pattern}
use Rattle.dfdl_terms.specs.declared.text.TextSize.{TextSize}
use Rattle.dfdl_terms.specs.declared.text.TextSize.TheVariants.{Bits, Characters, Delimited}
use Rattle.dfdl_terms.specs.Rows.{Table}
use Rattle.dfdl_looks.specs.Looks.{Agrees, seen_in}
use Rattle.dfdl_looks.specs.Asks.{Reached, Told, TooFar, Missing, Reading, ask}
use Rattle.dfdl_looks.specs.Tallies.{Tally, needs_from, nothing, one_row, plus}
use Rattle.dfdl_looks.proofs.Resumed.{asked}
use Rattle.dfdl_grammar.specs.declared.end.End.TheVariants.{Done, Failed}
use Rattle.dfdl_grammar.specs.States.{Input, State, anchor}
use Rattle.dfdl_grammar.specs.Outcomes.{Outcome, ended, spend, then_do}
use Rattle.dfdl_grammar.specs.Delimiters.{lists_of, markup}
use Rattle.dfdl_grammar.specs.Leaves.{Find, Fails, Finds, FindsOctets, FindsText, content_begins, content_ends, has_room, land, leaf, nil_values, program, program_for}
use Rattle.dfdl_grammar.specs.Prefixes.{behind_prefix, is_size, land_prefix, leaf_of, prefixed, resized, sized_leaf, units_told}
use Rattle.dfdl_grammar.specs.Boxes.{boxed_at, rest_from, unboxed}
use Rattle.dfdl_grammar.specs.Rows.{below}
use Rattle.dfdl_grammar.proofs.Spending.{spend-spend, spend-nothing}
use Rattle.dfdl_grammar.proofs.Towers.{below-meaning}
use Rattle.dfdl_parse.specs.declared.frame.Frame.{Frame}
use Rattle.dfdl_parse.specs.declared.frame.Frame.TheVariants.{Box}
use Rattle.dfdl_parse.specs.declared.frame.Focus.{Focus}
use Rattle.dfdl_parse.specs.declared.frame.Focus.TheVariants.{Enter, Sized, Leave}
use Rattle.dfdl_parse.specs.Boxing.{outside}
use Rattle.dfdl_parse.specs.Moves.{Machine, Move, is_missing, landed, pass, read_leaf, read_move}
use Rattle.dfdl_parse.specs.Prefixed.{at_end, can_fit, landed_prefix, prefix_move, read_prefix, read_resized, read_sized, sized_begins, units_begin}
use Rattle.dfdl_parse.specs.Ahead.{finish, ahead}
use Rattle.dfdl_parse.proofs.Windows.{agrees_from}
use Rattle.dfdl_leaves.proofs.Programs.{program_for-from}
use Rattle.dfdl_parse.proofs.Finishes.{Anchored, Does, after_nothing, finish-spend, found, land-nothing}

-- the window shows the data at a leaf: it agrees with them, has the size of the limit, and holds the bytes that are needed
pub record Sees (held : Held) (input : Input) (s : State) : Type 0 where
  pub agrees : Agrees held input.bytes
  pub size : held.size ≡ input.limits.window
  pub stands : Anchored held s

-- a box that would pass the end of the one around it has no room
no-room : (primitive : Primitive) (at bits stop : ℕ) → content_ends primitive at stop ≡ at + bits → nat_le (at + bits) stop ≡ false
    → has_room primitive at stop ≡ false
no-room primitive at bits stop ends over =
    ap (λ (end : ℕ). nat_le end stop && nat_le (content_begins primitive at) end) ends
    ∙ ap (λ (b : Bool). b && nat_le (content_begins primitive at) (at + bits)) over

module _ (input : Input) (table : Table) where
  land-ahead : (focus : Focus) (first : ℕ) (reached : Reached Find) (k : List Frame) (s : State) → is_missing reached ≡ false
      → finish input table k (land input.limits first reached s) ≡ ahead input table (landed input.limits focus first reached k s)
  land-ahead focus first (Told found) k s is =
      let o : Outcome = land input.limits first (Told found) s in
      ap (λ (t : Tally). finish input table k (record { end = o.end; state = o.state; tally = t })) (land-nothing input.limits first (Told found) s)
  land-ahead focus first TooFar k s is = refl
  land-ahead focus first Missing k s is = absurd (cc)

  -- the reading of a leaf over the data is its reading over the window
  leaf-reads : (held : Held) (nil : Option (List Value)) (primitive : Primitive) (s : State) → Sees held input s
      → ((ask (seen_at (from_byte held (anchor s))) (program_for nil (lists_of table.delimiters (markup s)) primitive s.at s.stop) nothing).reached ≡ Missing → ⊥)
      → ask (seen_at (from_byte held (anchor s))) (program_for nil (lists_of table.delimiters (markup s)) primitive s.at s.stop) nothing
      ≡ ask (seen_in input.bytes input.limits.window (anchor s)) (program_for nil (lists_of table.delimiters (markup s)) primitive s.at s.stop) nothing
  leaf-reads held nil primitive s sees here =
      asked (from_byte held (anchor s)) input.bytes (agrees_from held input.bytes (anchor s) sees.stands.base sees.stands.end sees.agrees)
      (program_for nil (lists_of table.delimiters (markup s)) primitive s.at s.stop) (program_for-from (anchor s) nil (lists_of table.delimiters (markup s)) primitive s.at s.stop sees.stands.low) nothing here
      ∙ ap (λ (size : ℕ). ask (seen_in input.bytes size (anchor s)) (program_for nil (lists_of table.delimiters (markup s)) primitive s.at s.stop) nothing) sees.size

  -- a leaf that has room, and one that hasn't
  leaf-ahead : (cost : Tally) (focus : Focus) (held : Held) (nil : Option (List Value)) (primitive : Primitive) (k : List Frame) (s : State) → Sees held input s → (room : Bool)
      → let sight : Held = from_byte held (anchor s) in
      let move : Move = cond room
      (read_move cost input.limits focus (content_begins primitive s.at) sight (ask (seen_at sight) (program_for nil (lists_of table.delimiters (markup s)) primitive s.at s.stop) nothing) k s)
      (pass cost held (Leave (Failed LengthOutOfRange s.at)) k s) in
      let whole : Reading Find = ask (seen_in input.bytes input.limits.window (anchor s)) (program_for nil (lists_of table.delimiters (markup s)) primitive s.at s.stop) nothing in
      move.waits ≡ false
      → Does input table (finish input table k (spend cost (cond room
      (spend (needs_from (anchor s) whole.tally) (land input.limits (content_begins primitive s.at) whole.reached s))
      (ended (Failed LengthOutOfRange s.at) s)))) move
  leaf-ahead cost focus held nil primitive k s sees true going =
      let here : Reading Find = ask (seen_at (from_byte held (anchor s))) (program_for nil (lists_of table.delimiters (markup s)) primitive s.at s.stop) nothing in
      let same = leaf-reads held nil primitive s sees (found here.reached going) in
      let first : ℕ = content_begins primitive s.at in
      let spent : Tally = needs_from (anchor s) here.tally in
      ap (λ (r : Reading Find). finish input table k (spend cost (spend (needs_from (anchor s) r.tally) (land input.limits first r.reached s)))) (sym same)
      ∙ ap (finish input table k) (spend-spend cost spent (land input.limits first here.reached s))
      ∙ finish-spend input table k (plus cost spent) (land input.limits first here.reached s)
      ∙ ap (spend (plus cost spent)) (land-ahead focus first here.reached k s going)
  leaf-ahead cost focus held nil primitive k s sees false going = finish-spend input table k cost (ended (Failed LengthOutOfRange s.at) s)

  pub leaf-of : (cost : Tally) (focus : Focus) (held : Held) (nil : Option (List Value)) (primitive : Option Primitive) (k : List Frame) (s : State) → Sees held input s
      → (read_leaf cost input.limits focus held table.delimiters nil primitive k s).waits ≡ false
      → Does input table (finish input table k (spend cost (leaf input table.delimiters nil primitive s))) (read_leaf cost input.limits focus held table.delimiters nil primitive k s)
  leaf-of cost focus held nil None k s sees going = finish-spend input table k cost (ended Done s)
  leaf-of cost focus held nil (Some primitive) k s sees going = leaf-ahead cost focus held nil primitive k s sees (has_room primitive s.at s.stop) going

  -- a leaf whose size was told
  resized-of : (focus : Focus) (held : Held) (nil : Option (List Value)) (primitive : Option Primitive) (k : List Frame) (s : State) → Sees held input s
      → (read_resized input.limits focus held table.delimiters nil primitive k s).waits ≡ false
      → Does input table (finish input table k (leaf_of input table.delimiters nil primitive s)) (read_resized input.limits focus held table.delimiters nil primitive k s)
  resized-of focus held nil None k s sees going = after_nothing input table k (ended (Failed LengthOutOfRange s.at) s)
  resized-of focus held nil (Some primitive) k s sees going =
      ap (finish input table k) (sym (spend-nothing (leaf input table.delimiters nil (Some primitive) s)))
      ∙ leaf-of nothing focus held nil (Some primitive) k s sees going

  pub sized-of : (held : Held) (prim : ℕ) (size : TextSize) (nil : Option (List Value)) (primitive : Option Primitive) (k : List Frame) (s : State) → Sees held input s
      → (read_sized input.limits held table.delimiters prim size nil primitive k s).waits ≡ false
      → Does input table (finish input table k (sized_leaf input table.delimiters nil primitive size s)) (read_sized input.limits held table.delimiters prim size nil primitive k s)
  sized-of held prim size nil None k s sees going = after_nothing input table k (ended Done s)
  sized-of held prim size nil (Some primitive) k s sees going = resized-of (Sized prim size) held nil (resized size primitive) k s sees going

  -- a leaf that would pass the end of the box fails where it begins, whether it can have that size or not
  too-long : (nil : Option (List Value)) (s : State) (bits : ℕ) → nat_le (s.at + bits) s.stop ≡ false → (test : Bool) (primitive : Primitive)
      → (test ≡ true → content_ends primitive s.at s.stop ≡ s.at + bits)
      → leaf_of input table.delimiters nil (cond test (Some primitive) None) s ≡ ended (Failed LengthOutOfRange s.at) s
  too-long nil s bits over true primitive ends =
      let whole : Reading Find = ask (seen_in input.bytes input.limits.window (anchor s)) (program_for nil (lists_of table.delimiters (markup s)) primitive s.at s.stop) nothing in
      ap (λ (room : Bool). cond room (spend (needs_from (anchor s) whole.tally) (land input.limits (content_begins primitive s.at) whole.reached s)) (ended (Failed LengthOutOfRange s.at) s))
      (no-room primitive s.at bits s.stop (ends refl) over)
  too-long nil s bits over false primitive ends = refl

  sized-too-long : (nil : Option (List Value)) (s : State) (size : TextSize) (primitive : Primitive) → can_fit size s.at s.stop ≡ false
      → leaf_of input table.delimiters nil (resized size primitive) s ≡ ended (Failed LengthOutOfRange s.at) s
  sized-too-long nil s (Characters count) primitive over = absurd (cc)
  sized-too-long nil s (Delimited scan) primitive over = absurd (cc)
  sized-too-long nil s (Bits bits) (Integer form) over =
      too-long nil s bits over (is_size (most_bits (form_of form.kind)) bits) (Integer (record form { bits = bits })) (λ can. refl)
  sized-too-long nil s (Bits bits) (Packed form) over =
      too-long nil s bits over (nat_eq (bits % 4) 0 && is_size (most_nibbles form.rep) (bits / 4)) (Packed (record form { nibbles = bits / 4 }))
      (λ can. whole-nibbles s.at bits (is_size (most_nibbles form.rep) (bits / 4)) can)
    where
      whole-nibbles : (at bits : ℕ) (few : Bool) → (nat_eq (bits % 4) 0 && few) ≡ true → at + 4 * (bits / 4) ≡ at + bits
      whole-nibbles at bits few can = let whole : bits % 4 ≡ 0 = grind (arith, nat_tests) in omega arith
  sized-too-long nil s (Bits bits) (Truth form) over = too-long nil s bits over (is_size 32 bits) (Truth (record form { bits = bits })) (λ can. refl)
  sized-too-long nil s (Bits bits) (Octets form) over = too-long nil s bits over true (Octets (record form { bits = bits })) (λ can. refl)
  sized-too-long nil s (Bits bits) (Text form) over = too-long nil s bits over true (Text (record form { size = Bits bits })) (λ can. refl)
  sized-too-long nil s (Bits bits) (NilOctets form) over =
      too-long nil s bits over true (NilOctets (record form { octets = record form.octets { bits = bits } })) (λ can. refl)
  sized-too-long nil s (Bits bits) (Default form) over = too-long nil s bits over true (Default (record form { size = Bits bits })) (λ can. refl)
  sized-too-long nil s (Bits bits) (NilValues form) over = refl
  sized-too-long nil s (Bits bits) (Pattern form) over = refl

  sized-fits : (prim : ℕ) (size : TextSize) (primitive : Primitive) (k : List Frame) (s : State) → slice_get table.primitives prim ≡ Some primitive
      → (fits : Bool) → can_fit size s.at s.stop ≡ fits
      → finish input table k (sized_leaf input table.delimiters (nil_values table.primitives s.instead) (Some primitive) size s)
      ≡ ahead input table (cond fits (record { focus = Sized prim size; stack = k; state = s }) (at_end (Failed LengthOutOfRange s.at) k s))
  sized-fits prim size primitive k s is true fit =
      ap (λ (p : Option Primitive). finish input table k (sized_leaf input table.delimiters (nil_values table.primitives s.instead) p size s)) (sym is)
  sized-fits prim size primitive k s is false fit = ap (finish input table k) (sized-too-long (nil_values table.primitives s.instead) s size primitive fit)

  pub sized-begin : (prim : ℕ) (size : TextSize) (primitive : Option Primitive) (k : List Frame) (s : State) → slice_get table.primitives prim ≡ primitive
      → finish input table k (sized_leaf input table.delimiters (nil_values table.primitives s.instead) primitive size s) ≡ ahead input table (sized_begins primitive prim size k s)
  sized-begin prim size None k s is = refl
  sized-begin prim size (Some primitive) k s is = sized-fits prim size primitive k s is (can_fit size s.at s.stop) refl

  -- a box begins
  pub box-ahead : (id bits body : ℕ) (k : List Frame) (s : State) → body < id → (inside : Bool)
      → finish input table k (cond inside
      (let o : Outcome = then_do (below input table id body (boxed_at (s.at + bits) s)) (rest_from input s.at) in unboxed o.end s.stop s.hidden o)
      (ended (Failed LengthOutOfRange s.at) s))
      ≡ ahead input table (cond inside
      (record { focus = Enter body; stack = Box (outside s) s.at ∷ k; state = boxed_at (s.at + bits) s })
      (at_end (Failed LengthOutOfRange s.at) k s))
  unfolding finish
  box-ahead id bits body k s less true =
      ap (λ (o : Outcome). finish input table k (unboxed (then_do o (rest_from input s.at)).end s.stop s.hidden (then_do o (rest_from input s.at))))
      (below-meaning input table id body (boxed_at (s.at + bits) s) less)
  box-ahead id bits body k s less false = refl

  -- a prefix, where what follows it does its part
  module _ (id own : ℕ) (follow : ℕ → State → Outcome) (next : ℕ → List Frame → State → Machine) (k : List Frame)
      (s : State) (goes : (units at : ℕ) → finish input table k (follow units (record s { at = at })) ≡ ahead input table (next units k (record s { at = at }))) where
    units-ahead : (end : ℕ) (units : Option ℕ)
        → finish input table k (behind_prefix end follow s units) ≡ ahead input table (units_begin end next units k s)
    units-ahead end None = refl
    units-ahead end (Some units) = goes units end

    prefix-landed : (first : ℕ) (reached : Reached Find) → is_missing reached ≡ false
        → finish input table k (land_prefix input.limits own first follow reached s)
        ≡ ahead input table (landed_prefix input.limits id own first next reached k s)
    prefix-landed first (Told (Fails cause)) is = refl
    prefix-landed first (Told (Finds content span)) is = units-ahead span.end (units_told own content)
    prefix-landed first (Told (FindsOctets bytes span)) is = refl
    prefix-landed first (Told (FindsText bytes span)) is = refl
    prefix-landed first TooFar is = refl
    prefix-landed first Missing is = absurd (cc)

    prefix-ahead : (held : Held) (primitive : Primitive) → Sees held input s → (room : Bool)
        → let sight : Held = from_byte held (anchor s) in
        let move : Move = cond room
        (prefix_move input.limits id own (content_begins primitive s.at) next sight (ask (seen_at sight) (program (lists_of table.delimiters (markup s)) primitive s.at s.stop) nothing) k s)
        (pass one_row held (Leave (Failed LengthOutOfRange s.at)) k s) in
        let whole : Reading Find = ask (seen_in input.bytes input.limits.window (anchor s)) (program (lists_of table.delimiters (markup s)) primitive s.at s.stop) nothing in
        move.waits ≡ false
        → Does input table (finish input table k (spend one_row (cond room
        (spend (needs_from (anchor s) whole.tally) (land_prefix input.limits own (content_begins primitive s.at) follow whole.reached s))
        (ended (Failed LengthOutOfRange s.at) s)))) move
    prefix-ahead held primitive sees true going =
        let here : Reading Find = ask (seen_at (from_byte held (anchor s))) (program (lists_of table.delimiters (markup s)) primitive s.at s.stop) nothing in
        let same = leaf-reads held None primitive s sees (found here.reached going) in
        let first : ℕ = content_begins primitive s.at in
        let spent : Tally = needs_from (anchor s) here.tally in
        ap (λ (r : Reading Find). finish input table k
        (spend one_row (spend (needs_from (anchor s) r.tally) (land_prefix input.limits own first follow r.reached s)))) (sym same)
        ∙ ap (finish input table k) (spend-spend one_row spent (land_prefix input.limits own first follow here.reached s))
        ∙ finish-spend input table k (plus one_row spent) (land_prefix input.limits own first follow here.reached s)
        ∙ ap (spend (plus one_row spent)) (prefix-landed first here.reached going)
    prefix-ahead held primitive sees false going = finish-spend input table k one_row (ended (Failed LengthOutOfRange s.at) s)

    pub prefix-of : (held : Held) (primitive : Option Primitive) → Sees held input s
        → (read_prefix input.limits id held table.delimiters own next primitive k s).waits ≡ false
        → Does input table (finish input table k (spend one_row (prefixed input table.delimiters primitive own follow s))) (read_prefix input.limits id held table.delimiters own next primitive k s)
    prefix-of held None sees going = finish-spend input table k one_row (ended (Failed LengthOutOfRange s.at) s)
    prefix-of held (Some primitive) sees going = prefix-ahead held primitive sees (has_room primitive s.at s.stop) going
