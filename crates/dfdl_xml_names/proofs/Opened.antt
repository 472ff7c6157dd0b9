-- The frames of open elements, where one more is opened.
use Rattle.std.specs.Prelude.{◌≡◌, ℕ, ◌+◌, ◌-◌, ◌<◌, ◌≤◌, suc, List, ◌++◌, ◌∷◌, [], length, take, drop, get_or}
use Rattle.std.specs.Option.{option_or}
use Rattle.std.specs.Str.{bytes_eq}
use Rattle.std.proofs.lemmas.Slice.Eq.{bytes_eq-Decides}
use Rattle.std.proofs.Common.{refl, sym, ap, ◌∙◌, arith}
use Rattle.std.proofs.lemmas.List.{take_more, take_all}
use Rattle.dfdl_markup.specs.Grammar.{Name, name_characters}
use Rattle.dfdl_markup.specs.Values.{Binding, found, fixed_namespace, outer_scope, xml_prefix, xmlns_prefix}
use Rattle.dfdl_markup.specs.Machine.{Frame, scope_of, wanted}
use Rattle.dfdl_xml_names.specs.Shown.{name_of}
use Rattle.dfdl_xml_names.specs.Opened.{frame_in, frames_on}
use Rattle.dfdl_xml_names.specs.declared.element.Element.{Element}
use Rattle.dfdl_xml_names.proofs.Kept.{found_append}
use Rattle.dfdl_xml_names.proofs.Texts.{same_test}

-- texts are compared either way
pub turned : (a b : List ℕ) → bytes_eq a b ≡ bytes_eq b a
turned a b =
    same_test _ _ (λ e. (bytes_eq-Decides b a).1 (sym ((bytes_eq-Decides a b).0 e)))
    (λ e. (bytes_eq-Decides a b).1 (sym ((bytes_eq-Decides b a).0 e)))

-- the last element is the innermost
pub frames_more : (frames : List Frame) (xs : List Element) (e : Element)
    → frames_on frames (xs ++ e ∷ []) ≡ frame_in (frames_on frames xs) e ∷ frames_on frames xs
frames_more frames [] e = refl
frames_more frames (x ∷ xs) e = frames_more (frame_in frames x ∷ frames) xs e

-- there are as many frames as elements
frames_count : (frames : List Frame) (xs : List Element) → length (frames_on frames xs) ≡ length xs + length frames
frames_count frames [] = omega arith
frames_count frames (x ∷ xs) =
    let deeper = frames_count (frame_in frames x ∷ frames) xs in
    omega (arith, deeper)

pub frames_length : (xs : List Element) → length (frames_on [] xs) ≡ length xs
frames_length xs = let all = frames_count [] xs in omega (arith, all)

-- the frames of elements by their last
last_is : (xs : List Element) (n : ℕ) (d : Element) → n + 1 ≡ length xs
    → frames_on [] xs ≡ frame_in (frames_on [] (take n xs)) (get_or xs n d) ∷ frames_on [] (take n xs)
last_is xs n d is =
    ap (frames_on []) (sym (take_all (n + 1) xs (omega (arith, is))) ∙ take_more xs n d (omega (arith, is)))
    ∙ frames_more [] (take n xs) (get_or xs n d)

pub wanted_is : (xs : List Element) (n : ℕ) (d : Element) → n + 1 ≡ length xs
    → wanted (frames_on [] xs) ≡ name_characters (name_of (get_or xs n d).name)
wanted_is xs n d is = ap wanted (last_is xs n d is)

-- what is found by one element more
pub found_more : (xs : List Element) (n : ℕ) (d : Element) (p : List ℕ) → n < length xs
    → found (scope_of (frames_on [] (take (n + 1) xs))) p
    ≡ option_or (found (get_or xs n d).declared p) (found (scope_of (frames_on [] (take n xs))) p)
found_more xs n d p less =
    ap (λ l. found (scope_of (frames_on [] l)) p) (take_more xs n d less)
    ∙ (ap (λ fs. found (scope_of fs) p) (frames_more [] (take n xs) (get_or xs n d))
    ∙ found_append (get_or xs n d).declared (scope_of (frames_on [] (take n xs))) p)

-- the frames without the innermost
pub left_frames : (xs : List Element) → frames_on [] (take (length xs - 1) xs) ≡ drop 1 (frames_on [] xs)
left_frames [] = refl
left_frames (x ∷ xs) =
    let n : suc (length xs) - 1 ≡ length xs = omega arith in
    ap (λ m. frames_on [] (take m (x ∷ xs))) n ∙ ap (drop 1) (sym (last_is (x ∷ xs) (length xs) x (omega arith)))

abbrev the_frame : List Frame → Name → List Binding → Frame
the_frame frames name declared = record { name = name; scope = declared ++ scope_of frames }

-- frames by their parts
pub same_frame : (frames : List Frame) (a b : Name) (d e : List Binding) → a ≡ b → d ≡ e
    → the_frame frames a d ≡ the_frame frames b e
same_frame frames a b d e n is = ap (λ x. the_frame frames x d) n ∙ ap (the_frame frames b) is

-- frames with an element behind the others
pub entered : (frames : List Frame) (xs : List Element) (e : Element) (name : Name) (declared : List Binding)
    → frames_on [] xs ≡ frames → name_of e.name ≡ name → e.declared ≡ declared
    → frames_on [] (xs ++ e ∷ []) ≡ the_frame frames name declared ∷ frames
entered frames xs e name declared is n d =
    frames_more [] xs e
    ∙ (ap (λ fs. frame_in fs e ∷ fs) is
    ∙ ap (λ f. f ∷ frames) (same_frame frames _ _ _ _ n d))

pub wanted_of_none : (xs : List Element) → length xs ≡ 0 → wanted (frames_on [] xs) ≡ []
wanted_of_none [] none = refl
wanted_of_none (x ∷ xs) none = absurd (omega (arith, none))

-- what is found inside of the elements below a place, by the last of them
pub found_below : (xs : List Element) (at : ℕ) (d : Element) (p : List ℕ) → 0 < at → at ≤ length xs
    → found (scope_of (frames_on [] (take at xs))) p
    ≡ option_or (found (get_or xs (at - 1) d).declared p) (found (scope_of (frames_on [] (take (at - 1) xs))) p)
found_below xs at d p some within =
    let n : at ≡ at - 1 + 1 = omega (arith, some) in
    ap (λ m. found (scope_of (frames_on [] (take m xs))) p) n ∙ found_more xs (at - 1) d p (omega (arith, some, within))

-- what is found outside of all elements
pub found_outside : (p : List ℕ) → fixed_namespace p ≡ found outer_scope p
unfolding outer_scope
found_outside p =
    let xml = turned p xml_prefix in
    let xmlns = turned p xmlns_prefix in
    rw xml (rw xmlns refl)
