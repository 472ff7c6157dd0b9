-- The machine runs over end tags.
use Rattle.std.proofs.Common.{◌≡◌, ℕ, ◌==◌, ◌<◌, ◌||◌, true}
use Rattle.std.proofs.Common.{List, [], ◌∷◌, ◌++◌, Some, None, Ok}
use Rattle.std.proofs.Common.{refl, sym, ap, ◌∙◌, subst}
use Rattle.std.proofs.lemmas.Slice.Eq.{bytes_eq-Decides}
use Rattle.std.proofs.lemmas.Bool.{eqb-false}
use Rattle.std.proofs.lemmas.Bool.{or_left}
use Rattle.dfdl_layers.specs.Tellers.{run}
use Rattle.dfdl_xml_chars.specs.Characters.{is_name_start}
use Rattle.dfdl_markup.specs.Grammar.{is_white, Name, name_characters}
use Rattle.dfdl_markup.specs.Values.{same_name}
use Rattle.dfdl_markup.specs.Rules.{IsName, AreWhite}
use Rattle.dfdl_markup.specs.Machine.{Reading, First, whole_name, Place, AtContent, AtOpened}
use Rattle.dfdl_markup.specs.Machine.{AtEndTag, AtEndName}
use Rattle.dfdl_markup.specs.Machine.{AtEndSpace, Ahead}
use Rattle.dfdl_markup.specs.Machine.{NothingAhead, Frame, State, stand, step, content_step}
use Rattle.dfdl_markup.specs.Machine.{opened_step}
use Rattle.dfdl_markup.specs.Machine.{end_next, end_tag_step, end_space_step, end_ended}
use Rattle.dfdl_markup.specs.Machine.{end_name_or, end_name_step}
use Rattle.dfdl_markup.proofs.RunNames.{EndsName, ReadsOn, name_read, next_none, white_ends}
use Rattle.dfdl_markup.proofs.RunNames.{end_marks}
use Rattle.dfdl_markup.proofs.RunSteps.{whites_stay, Ends, After, state, RunsFrom, goes, not_under}
use Rattle.dfdl_markup.proofs.RunSteps.{if_true}
use Rattle.dfdl_markup.proofs.RunSteps.{if_false, at_test}

no_cons : (c : ℕ) (text : List ℕ) → c ∷ text ≡ [] → ⊥
no_cons c text e = absurd (cc)

-- an end tag, where these are the elements around the innermost open one
module _ (n begun : ℕ) (frame : Frame) (frames : List Frame) where
  abbrev inner : Place → State
  inner place = state NothingAhead place begun (frame ∷ frames)

  -- a character of the name, with what is wanted
  end_goes : (s : State) (reading : Reading) (c : ℕ) (more want text : List ℕ)
      → (4 < n → c ∷ more ≡ want)
      → ((left : List ℕ) → (4 < n → more ≡ left)
      → Ends n (run step (stand s (AtEndName reading left)) text))
      → After n (end_next s reading want c) text
  end_goes s reading c more [] text same ends = not_under n 4 (λ less. no_cons c more (same less))
  end_goes s reading c more (w ∷ left) text same ends =
      at_test n text (c == w) _ _
      (λ e. ends left (λ less. tails (same less)))
      (λ e. not_under n 4 (λ less. eqb-false c w e (heads (same less))))
    where
      tails : c ∷ more ≡ w ∷ left → more ≡ left
      tails e = cc

      heads : c ∷ more ≡ w ∷ left → c ≡ w
      heads e = cc

  end_white : (w : ℕ) → is_white w ≡ true → step (inner AtEndSpace) w ≡ Ok (inner AtEndSpace)
  unfolding step end_space_step
  end_white w e = if_true (is_white w) _ _ e

  end_closed : (tail : List ℕ) → RunsFrom n begun frames (AtContent 0) tail
      → RunsFrom n begun (frame ∷ frames) AtEndSpace (62 ∷ tail)
  unfolding step end_space_step is_white
  end_closed tail ends = ends

  -- what stands behind the name, of which so much is left
  name_ended : (last : Reading) (name : Name) (left : List ℕ) (c : ℕ) → whole_name last ≡ Some name
      → EndsName c
      → step (inner (AtEndName last left)) c ≡ end_ended left (inner (AtEndName last left)) c
  unfolding step end_name_step
  name_ended last name left c whole ending =
      let s = inner (AtEndName last left) in
      ap (λ o. end_name_or o (whole_name last) s left c) (next_none last name c whole ending)
      ∙ ap (λ o. end_name_or None o s left c) whole

  end_behind : (last : Reading) (name : Name) (left space tail : List ℕ) → whole_name last
      ≡ Some name
      → (4 < n → [] ≡ left) → AreWhite space → RunsFrom n begun frames (AtContent 0) tail
      → RunsFrom n begun (frame ∷ frames) (AtEndName last left) (space ++ 62 ∷ tail)
  unfolding end_space_step is_white
  end_behind last name [] [] tail whole same are ends =
      subst (λ a. After n a tail) (sym (name_ended last name [] 62 whole end_marks.greater)) ends
  end_behind last name [] (w ∷ space) tail whole same are ends =
      subst (λ a. After n a (space ++ 62 ∷ tail))
      (sym (name_ended last name [] w whole (white_ends w are.0) ∙ if_true (is_white w) _ _ are.0))
      (whites_stay n (inner AtEndSpace) end_white space (62 ∷ tail) are.1
      (end_closed tail ends))
  end_behind last name (v ∷ left) [] tail whole same are ends =
      subst (λ a. After n a tail) (sym (name_ended last name (v ∷ left) 62 whole end_marks.greater))
      (not_under n 4 (λ less. no_cons v left (sym (same less))))
  end_behind last name (v ∷ left) (w ∷ space) tail whole same are ends =
      subst (λ a. After n a (space ++ 62 ∷ tail))
      (sym (name_ended last name (v ∷ left) w whole (white_ends w are.0)
      ∙ if_true (is_white w || w == 62) _ _ (or_left (is_white w) (w == 62) are.0)))
      (not_under n 4 (λ less. no_cons v left (sym (same less))))

  end_more : (reading last : Reading) (name : Name) (more left space tail : List ℕ)
      → ReadsOn reading more last → whole_name last ≡ Some name → (4 < n → more ≡ left)
      → AreWhite space → RunsFrom n begun frames (AtContent 0) tail
      → RunsFrom n begun (frame ∷ frames) (AtEndName reading left) (more ++ (space ++ 62 ∷ tail))
  unfolding step end_name_step
  end_more reading last name [] left space tail reads whole same are ends =
      subst (λ r. RunsFrom n begun (frame ∷ frames) (AtEndName r left) (space ++ 62 ∷ tail))
      (sym reads)
      (end_behind last name left space tail whole same are ends)
  end_more reading last name (c ∷ more) left space tail reads whole same are ends =
      let s = inner (AtEndName reading left) in
      let rest = more ++ (space ++ 62 ∷ tail) in
      subst (λ a. After n a rest)
      (sym (ap (λ o. end_name_or o (whole_name reading) s left c) reads.1))
      (end_goes s reads.0 c more left rest same
      (λ behind equal. end_more reads.0 last name more behind space tail reads.2 whole equal are
      ends))

  -- an end tag behind its `</`
  end_runs : (name : Name) (space tail : List ℕ) → IsName name → AreWhite space
      → (4 < n → same_name name frame.name ≡ true) → RunsFrom n begun frames (AtContent 0) tail
      → RunsFrom n begun (frame ∷ frames) AtEndTag (name_characters name ++ (space ++ 62 ∷ tail))
  unfolding step end_tag_step
  end_runs name space tail is are same ends =
      let read = name_read name is in
      let rest = read.more ++ (space ++ 62 ∷ tail) in
      let equal : 4 < n → read.first ∷ read.more ≡ name_characters frame.name =
      λ less. sym read.is ∙ (bytes_eq-Decides (name_characters name) (name_characters frame.name)).0
      (same less)
      in
      subst (λ l. RunsFrom n begun (frame ∷ frames) AtEndTag (l ++ (space ++ 62 ∷ tail)))
      (sym read.is)
      (subst (λ a. After n a rest) (sym (if_true (is_name_start read.first) _ _ read.starts))
      (end_goes (inner AtEndTag) (First (read.first ∷ [])) read.first read.more
      (name_characters frame.name) rest equal
      (λ left behind. end_more
      (First (read.first ∷ [])) read.last name read.more left space tail read.follows read.whole
      behind are ends)))

  pub closing_runs : (ahead : Ahead) (before : ℕ) (name : Name) (space tail : List ℕ) → IsName name
      → AreWhite space → (4 < n → same_name name frame.name ≡ true)
      → RunsFrom n begun frames (AtContent 0) tail
      → Ends n (run step (state ahead (AtContent before) begun (frame ∷ frames))
      (60 ∷ 47 ∷ (name_characters name ++ (space ++ 62 ∷ tail))))
  unfolding step content_step opened_step
  closing_runs ahead before name space tail is are same ends =
      goes n (state ahead (AtContent before) begun (frame ∷ frames)) (inner AtOpened) 60
      (47 ∷ (name_characters name ++ (space ++ 62 ∷ tail))) refl
      (goes n (inner AtOpened) (inner AtEndTag) 47 (name_characters name ++ (space ++ 62 ∷ tail))
      (if_false (is_name_start 47) _ _ end_marks.slash.no_start)
      (end_runs name space tail is are same ends))
