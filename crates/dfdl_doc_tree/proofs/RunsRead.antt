-- The reader over runs of plain characters.
use Rattle.std.proofs.Common.{◌≡◌, ◌≤◌, ◌+◌, ℕ, zero, suc, true, false, List, [], ◌∷◌, ◌++◌, ◌==◌}
use Rattle.std.proofs.Common.{refl, sym, ap, ap₂, ◌∙◌, take, length, Result, Ok, Err, arith, append_assoc, append-nil, nat_lt}
use Rattle.std.proofs.lemmas.Bool.{and_parts, ltb-true}
use Rattle.std.proofs.lemmas.Bool.Decides.{nat_tests}
use Rattle.std.proofs.lemmas.List.{length-take, length-drop}
use Rattle.std.proofs.Math.Seq.{take-add}
use Rattle.std.proofs.Common.{drop, get_or, ◌-◌}
use Rattle.dfdl_layers.proofs.Runs.{run-append}
use Rattle.dfdl_markup.specs.Building.{read_start}
use Rattle.std.proofs.lemmas.Str.{encode_ascii}
use Rattle.std.specs.List.{list_all}
use Rattle.dfdl_layers.specs.Tellers.{run, go_on}
use Rattle.dfdl_layers.specs.Bytes.{Inside, Whole, between, behind}
use Rattle.dfdl_xml_chars.specs.Utf8.{see}
use Rattle.dfdl_xml_chars.specs.Characters.{is_allowed, char_rows}
use Rattle.dfdl_markup.specs.Trees.{Node, size}
use Rattle.dfdl_markup.specs.Machine.{State, step}
use Rattle.dfdl_markup.specs.Building.{Effect, Stays, Reads, Built, Reader, build, build_step, read_step, effect_at}
use Rattle.dfdl_markup.specs.Building.{changed, changed_in, with_more_text, with_built}
use Rattle.dfdl_doc_tree.specs.Plain.{is_plain, Passes, quiet, reads}
use Rattle.dfdl_doc_tree.proofs.Sizes.{size-one}

-- a plain character is one byte, which is the character, and XML allows it
plain_low : (c : ℕ) → is_plain c ≡ true → nat_lt c 128 ≡ true
unfolding is_plain
plain_low c is = (and_parts _ _ is).0

plain_size : (c : ℕ) → is_plain c ≡ true → size (c ∷ []) ≡ 1
plain_size c is = size-one c ∙ ap length (encode_ascii c (ltb-true c 128 (plain_low c is)))

plain_seen : (c : ℕ) → is_plain c ≡ true → see (c ∷ []) ≡ Whole c
unfolding see
plain_seen c is = rw (plain_low c is) refl

plain_allowed : (c : ℕ) → is_plain c ≡ true → is_allowed c ≡ true
unfolding is_plain is_allowed char_rows
plain_allowed c is = grind (arith, nat_tests, is)

-- nor is it a CR
plain_no_cr : (c : ℕ) → is_plain c ≡ true → (c == 13) ≡ false
unfolding is_plain
plain_no_cr c is = grind (arith, nat_tests, is)

-- the step over its byte is the step over it
byte_is : (r : Reader) (c : ℕ) → is_plain c ≡ true → read_step (between r) c ≡ behind (build_step r c)
unfolding read_step
byte_is r c is = rw (plain_seen c is) (rw (plain_allowed c is) refl)

-- a step over characters and then the rest, over bytes
bytes_step : (text : List ℕ) (t : Reader) (o : Result Reader ℕ)
    → ((u : Reader) → run build_step u text ≡ Ok t → run read_step (between u) text ≡ Ok (between t))
    → go_on (λ r. run build_step r text) o ≡ Ok t
    → go_on (λ i. run read_step i text) (behind o) ≡ Ok (between t)
bytes_step text t (Ok u) rest is = rest u is
bytes_step text t (Err m) rest is = absurd (cc)

-- what goes on over characters goes on over their bytes
bytes_run : (r t : Reader) (text : List ℕ) → list_all is_plain text ≡ true
    → run build_step r text ≡ Ok t → run read_step (between r) text ≡ Ok (between t)
bytes_run r t [] are is = ap (λ (o : Result Reader ℕ). behind o) is
bytes_run r t (c ∷ text) are is =
    let parts = and_parts (is_plain c) (list_all is_plain text) are in
    ap (λ o. go_on (λ i. run read_step i text) o) (byte_is r c parts.0)
    ∙ bytes_step text t (build_step r c) (λ u goes. bytes_run u t text parts.1 goes) is

-- the tree by so many bytes that do nothing to it
abbrev stayed : Built → ℕ → Built
stayed b bytes = record {
  nodes = b.nodes;
  ancestors = b.ancestors;
  behind_cr = b.behind_cr;
  at = b.at + bytes;
  opened_at = b.opened_at;
}

-- the tree by more text
abbrev pub texted : Built → List ℕ → Built
texted b text = record {
  nodes = changed_in (with_more_text text) b.ancestors b.nodes;
  ancestors = b.ancestors;
  behind_cr = false;
  at = b.at + length text;
  opened_at = b.opened_at;
}

abbrev reader_at : State → Built → Reader
reader_at s b = record { state = s; built = b }

-- one character
one_step : (effect : ℕ → Effect) (s u : State) (b : Built) (c : ℕ) → is_plain c ≡ true → step s c ≡ Ok u
    → effect_at s.place s c ≡ effect c → build_step (reader_at s b) c ≡ Ok (reader_at u (build (effect c) 1 b))
one_step effect s u b c is goes does =
    ap (λ o. with_built (build (effect_at s.place s c) (size (c ∷ [])) b) o) goes
    ∙ ap₂ (λ e n. Ok (reader_at u (build e n b))) does (plain_size c is)

stayed_all : (s t : State) (b : Built) (text : List ℕ) → list_all is_plain text ≡ true
    → Passes quiet s text t → run build_step (reader_at s b) text ≡ Ok (reader_at t (stayed b (length text)))
stayed_all s t b [] are is =
    ap₂ (λ u n. Ok (reader_at u (record { nodes = b.nodes; ancestors = b.ancestors; behind_cr = b.behind_cr; at = n; opened_at = b.opened_at }))) is (sum b.at)
  where
    sum : (n : ℕ) → n ≡ n + 0
    sum n = omega arith
stayed_all s t b (c ∷ text) are is =
    let parts = and_parts (is_plain c) (list_all is_plain text) are in
    ap (λ o. go_on (λ r. run build_step r text) o) (one_step quiet s is.0 b c parts.0 is.1.0 is.1.1.0)
    ∙ (stayed_all is.0 t (stayed b 1) text parts.1 is.1.1.1
    ∙ ap (λ n. Ok (reader_at t (record { nodes = b.nodes; ancestors = b.ancestors; behind_cr = b.behind_cr; at = n; opened_at = b.opened_at }))) (sum b.at (length text)))
  where
    sum : (n m : ℕ) → n + 1 + m ≡ n + suc m
    sum n m = omega arith

-- text and then more of it
text_twice : (first more : List ℕ) (element : ℕ) (nodes : List Node)
    → changed (with_more_text more) element (changed (with_more_text first) element nodes)
    ≡ changed (with_more_text (first ++ more)) element nodes
text_twice first more element [] = refl
text_twice first more zero (n ∷ nodes) =
    ap (λ (t : List ℕ). record { name = n.name; attributes = n.attributes; parent = n.parent; children = n.children; text = t; at = n.at } ∷ nodes)
    (append_assoc n.text first more)
text_twice first more (suc element) (n ∷ nodes) = ap (λ l. n ∷ l) (text_twice first more element nodes)

text_in_twice : (first more : List ℕ) (ancestors : List ℕ) (nodes : List Node)
    → changed_in (with_more_text more) ancestors (changed_in (with_more_text first) ancestors nodes)
    ≡ changed_in (with_more_text (first ++ more)) ancestors nodes
text_in_twice first more [] nodes = refl
text_in_twice first more (element ∷ ancestors) nodes = text_twice first more element nodes

no_text : (element : ℕ) (nodes : List Node) → nodes ≡ changed (with_more_text []) element nodes
no_text element [] = refl
no_text zero (n ∷ nodes) =
    ap (λ (t : List ℕ). record { name = n.name; attributes = n.attributes; parent = n.parent; children = n.children; text = t; at = n.at } ∷ nodes)
    (sym (append-nil n.text))
no_text (suc element) (n ∷ nodes) = ap (λ l. n ∷ l) (no_text element nodes)

no_text_in : (ancestors : List ℕ) (nodes : List Node) → nodes ≡ changed_in (with_more_text []) ancestors nodes
no_text_in [] nodes = refl
no_text_in (element ∷ ancestors) nodes = no_text element nodes

-- a plain character of text
read_one : (b : Built) (c : ℕ) → is_plain c ≡ true → b.behind_cr ≡ false → build (Reads 0 c) 1 b ≡ texted b (c ∷ [])
read_one b c is cr = rw cr (rw (plain_no_cr c is) refl)

texted_twice : (b : Built) (c : ℕ) (text : List ℕ) → texted (texted b (c ∷ [])) text ≡ texted b (c ∷ text)
texted_twice b c text =
    ap₂ (λ (nodes : List Node) (at : ℕ). record { nodes = nodes; ancestors = b.ancestors; behind_cr = false; at = at; opened_at = b.opened_at })
    (text_in_twice (c ∷ []) text b.ancestors b.nodes) (sum b.at (length text))
  where
    sum : (n m : ℕ) → n + 1 + m ≡ n + suc m
    sum n m = omega arith

texted_nothing : (b : Built) → b.behind_cr ≡ false → b ≡ texted b []
texted_nothing b cr =
    ap (λ f. record { nodes = b.nodes; ancestors = b.ancestors; behind_cr = f; at = b.at; opened_at = b.opened_at }) cr
    ∙ ap₂ (λ (nodes : List Node) (at : ℕ). record { nodes = nodes; ancestors = b.ancestors; behind_cr = false; at = at; opened_at = b.opened_at })
    (no_text_in b.ancestors b.nodes) (sum b.at)
  where
    sum : (n : ℕ) → n ≡ n + 0
    sum n = omega arith

texted_all : (s t : State) (b : Built) (text : List ℕ) → b.behind_cr ≡ false → list_all is_plain text ≡ true
    → Passes reads s text t → run build_step (reader_at s b) text ≡ Ok (reader_at t (texted b text))
texted_all s t b [] cr are is = ap₂ (λ u c. Ok (reader_at u c)) is (texted_nothing b cr)
texted_all s t b (c ∷ text) cr are is =
    let parts = and_parts (is_plain c) (list_all is_plain text) are in
    ap (λ o. go_on (λ r. run build_step r text) o)
    (one_step reads s is.0 b c parts.0 is.1.0 is.1.1.0 ∙ ap (λ d. Ok (reader_at is.0 d)) (read_one b c parts.0 cr))
    ∙ (texted_all is.0 t (texted b (c ∷ [])) text refl parts.1 is.1.1.1
    ∙ ap (λ d. Ok (reader_at t d)) (texted_twice b c text))

-- over bytes
pub quiet_run : (s t : State) (b c : Built) (text : List ℕ) → list_all is_plain text ≡ true
    → Passes quiet s text t → c ≡ build Stays (length text) b
    → run read_step (between (reader_at s b)) text ≡ Ok (between (reader_at t c))
quiet_run s t b c text are is grown =
    bytes_run _ _ text are (stayed_all s t b text are is) ∙ ap (λ d. Ok (between (reader_at t d))) (sym grown)

pub text_run : (s t : State) (b c : Built) (text : List ℕ) → b.behind_cr ≡ false
    → list_all is_plain text ≡ true → Passes reads s text t → c ≡ texted b text
    → run read_step (between (reader_at s b)) text ≡ Ok (between (reader_at t c))
text_run s t b c text cr are is grown =
    bytes_run _ _ text are (texted_all s t b text cr are is) ∙ ap (λ d. Ok (between (reader_at t d))) (sym grown)

-- no byte of a character is waiting
pub from_between : (r t : Reader) (waiting : List ℕ) → waiting ≡ [] → (text : List ℕ)
    → run read_step (between r) text ≡ Ok (between t)
    → run read_step (record { state = r; read = waiting }) text ≡ Ok (record { state = t; read = waiting })
from_between r t waiting none text is =
    ap (λ (w : List ℕ). run read_step (record { state = r; read = w }) text) none
    ∙ (is ∙ ap (λ (w : List ℕ). Ok (record { state = t; read = w })) (sym none))

pub taken_length : (count : ℕ) (bytes : List ℕ) → count ≤ length bytes → length (take count bytes) ≡ count
taken_length count bytes within = omega (arith, length-take count bytes)

-- the same text and its length
pub grown : (b : Built) (characters text : List ℕ) (count : ℕ) → characters ≡ text → length text ≡ count
    → record {
      nodes = changed_in (with_more_text characters) b.ancestors b.nodes;
      ancestors = b.ancestors;
      behind_cr = false;
      at = b.at + count;
      opened_at = b.opened_at;
    } ≡ texted b text
grown b characters text count same long =
    ap₂ (λ (t : List ℕ) (n : ℕ). record {
      nodes = changed_in (with_more_text t) b.ancestors b.nodes;
      ancestors = b.ancestors;
      behind_cr = false;
      at = b.at + n;
      opened_at = b.opened_at;
    }) same (sym long)

-- the bytes so far and a run behind them
pub more_read : (bytes rest : List ℕ) (at count : ℕ) (r s : Inside Reader) → rest ≡ drop at bytes
    → run read_step read_start (take at bytes) ≡ Ok r → run read_step r (take count rest) ≡ Ok s
    → run read_step read_start (take (at + count) bytes) ≡ Ok s
more_read bytes rest at count r s behind first second =
    ap (λ l. run read_step read_start l) (take-add at count bytes)
    ∙ (run-append read_step (take at bytes) (take count (drop at bytes)) read_start
    ∙ (ap (λ o. go_on (λ i. run read_step i (take count (drop at bytes))) o) first
    ∙ (ap (λ l. run read_step r (take count l)) (sym behind) ∙ second)))

pub more_within : (bytes rest : List ℕ) (at count : ℕ) → rest ≡ drop at bytes → at ≤ length bytes
    → count ≤ length rest → at + count ≤ length bytes
more_within bytes rest at count behind within more =
    let long : length rest ≡ length bytes - at = ap length behind ∙ length-drop at bytes in
    omega (arith, within, more, long)

first_of_rest : (bytes : List ℕ) (at : ℕ) → get_or (drop at bytes) 0 0 ≡ get_or bytes at 0
first_of_rest [] zero = refl
first_of_rest [] (suc at) = refl
first_of_rest (b ∷ bytes) zero = refl
first_of_rest (b ∷ bytes) (suc at) = first_of_rest bytes at

-- the first of the bytes behind a place is the one at it
pub first_behind : (bytes rest : List ℕ) (at : ℕ) → rest ≡ drop at bytes → get_or rest 0 0 ≡ get_or bytes at 0
first_behind bytes rest at behind = ap (λ l. get_or l 0 0) behind ∙ first_of_rest bytes at
