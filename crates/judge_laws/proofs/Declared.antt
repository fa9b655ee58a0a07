-- The devices of a topology are those that its lines declare, in their order.
use Rattle.std.proofs.Common.{◌≡◌, ℕ, zero, suc, ◌+◌, ◌<◌, ◌≤◌, ◌==◌, nat_le, not, ◌&&◌, ◌||◌, Bool, true, false, true≢false, if◌then◌else◌, codes, length, length-append, append_assoc, append-nil, take, List, [], ◌∷◌, ◌++◌, Option, Some, None, is_some, Result, Ok, Err, refl, sym, ap, subst, ◌∙◌, arith}
use Rattle.std.proofs.lemmas.Bool.Decides.{nat_tests}
use Rattle.std.proofs.lemmas.List.{map-append}
use Rattle.std.proofs.lemmas.Slice.Eq.{bytes_eq-Decides}
use Rattle.std.specs.List.{onto_first, slice_split}
use Rattle.std.specs.Str.{bytes_eq}
use Rattle.text_core.specs.At.{at_line, at_word}
use Rattle.text_core.specs.Lines.{is_skipped, lines_of}
use Rattle.text_core.specs.Words.{words_of}
use Rattle.text_core.specs.declared.at.At.{At}
use Rattle.text_core.specs.declared.at.AtWord.{AtWord}
use Rattle.text_core.specs.declared.kind.Kind.{Kind}
use Rattle.edid_tree.specs.Name.{is_name}
use Rattle.edid_tree.specs.Node.{Node}
use Rattle.edid_tree.specs.Tree.{add_fault, device_named, has_root, plug_fault, tree_with_plug, with_plug}
use Rattle.edid_tree.specs.declared.plug.AddError.{AddError}
use Rattle.edid_tree.specs.declared.plug.AddError.TheVariants.{Full}
use Rattle.edid_tree.specs.declared.plug.Plug.{Plug as PlugRecord}
use Rattle.edid_tree.specs.declared.plug.PlugError.{PlugError}
use Rattle.text_forms.specs.Forms.{Place, Said, fault_in, is_whole, kind_at, line_of, meanings_of, port_at, ports_at, read_by, read_of, row_of, text_at, unless}
use Rattle.text_forms.specs.declared.form.LineCause.{LineCause}
use Rattle.text_forms.specs.declared.form.Slot.TheVariants as slots
use Rattle.room_lines.specs.Topology.{topology_rows}
use Rattle.room_lines.specs.declared.topology.TopologyVerb.{TopologyVerb}
use Rattle.room_lines.specs.declared.topology.TopologyVerb.TheVariants.{Device, Plug, Edid}
use Rattle.room_script.specs.Topology.{Plan, after_line, bytes_of, checked_in, device_checked, edid_checked, edid_read, line_read, lines_read, plug_checked, unless_add, unless_plug}
use Rattle.room_script.specs.declared.topology.TopologyCause.{TopologyCause}
use Rattle.room_script.specs.declared.topology.TopologyCause.TheVariants as causes
use Rattle.capture_laws.specs.Dumps.{names_in}
use Rattle.expect_text.specs.Faults.{declared_in, named_or, names_in as declared_names}
use Rattle.judge_laws.specs.Said.{NamesAreDeclared}

-- a plan with these names more
abbrev Adds : Plan → List (List ℕ) → Plan → Type 0
Adds plan names next = (names_in next.tree ≡ names_in plan.tree ++ names) × (length plan.tree ≤ 15 → length next.tree ≤ 15)

none_added : (plan next : Plan) → names_in next.tree ≡ names_in plan.tree → length next.tree ≡ length plan.tree → Adds plan [] next
none_added plan next e l = (e ∙ sym (append-nil (names_in plan.tree)), λ few. omega (arith, few, l))

-- ---- what a line says

has_room : (b : Bool) (n : ℕ) (rest : Option AddError) → nat_le 15 n ≡ b → (if b then Some Full else rest) ≡ None → n < 15
has_room true n rest e k = cc
has_room false n rest e k = grind (arith, nat_tests)

device_adds : (plan : Plan) (name : List ℕ) (kind : Kind) (ports : ℕ) (next : Plan) → device_checked plan name kind ports ≡ Ok next → Adds plan (name ∷ []) next
device_adds plan name kind ports next h = by (not (is_name name) || is_some (device_named plan.tree name)) h
  where
    node : Node
    node = record { name = name; kind = kind; ports = ports; plug = None }

    whole : Plan
    whole = record plan { tree = plan.tree ++ node ∷ [] }

    by_fault : (f : Option AddError) → add_fault 15 plan.tree name kind ≡ f → unless_add f whole ≡ Ok next → Adds plan (name ∷ []) next
    by_fault None e k =
        let same : whole ≡ next = cc in
        let less : length plan.tree < 15 = has_room (nat_le 15 (length plan.tree)) (length plan.tree) _ refl e in
        subst (λ (n : Plan). Adds plan (name ∷ []) n) same (map-append (λ (n : Node). n.name) plan.tree (node ∷ []), λ few. omega (arith, less, length-append plan.tree (node ∷ [])))
    by_fault (Some x) e k = cc

    by : (b : Bool) → (if b then Err (at_word 1 causes.Name) else unless_add (add_fault 15 plan.tree name kind) whole) ≡ Ok next → Adds plan (name ∷ []) next
    by true k = cc
    by false k = by_fault (add_fault 15 plan.tree name kind) refl k

names_plug : (tree : List Node) (child : ℕ) (plug : Option PlugRecord) → (names_in (with_plug tree child plug) ≡ names_in tree) × (length (with_plug tree child plug) ≡ length tree)
names_plug [] child plug = (refl, refl)
names_plug (node ∷ tree) zero plug = (refl, refl)
names_plug (node ∷ tree) (suc child) plug = let r = names_plug tree child plug in (ap (λ (ns : List (List ℕ)). node.name ∷ ns) r.0, omega (arith, r.1))

plug_adds : (plan : Plan) (child parent : Option ℕ) (port : ℕ) (next : Plan) → plug_checked plan child parent port ≡ Ok next → Adds plan [] next
plug_adds plan None parent port next h = cc
plug_adds plan (Some child) None port next h = cc
plug_adds plan (Some child) (Some parent) port next h = by (plug_fault plan.tree child parent port) h
  where
    whole : Plan
    whole = record plan { tree = tree_with_plug plan.tree child parent port }

    by : (f : Option PlugError) → unless_plug f whole ≡ Ok next → Adds plan [] next
    by None k =
        let same : whole ≡ next = cc in
        let r = names_plug plan.tree child (Some (record { parent = parent; port = port })) in
        subst (λ (n : Plan). Adds plan [] n) same (none_added plan whole r.0 r.1)
    by (Some x) k = cc

edid_adds : (plan : Plan) (hex : List ℕ) (next : Plan) → edid_checked plan hex ≡ Ok next → Adds plan [] next
edid_adds plan hex next h = by (is_some plan.edid) h
  where
    by_bytes : (o : Option (List ℕ)) → edid_read plan o ≡ Ok next → Adds plan [] next
    by_bytes None k = cc
    by_bytes (Some bytes) k =
        let same : record plan { edid = Some bytes } ≡ next = cc in
        subst (λ (n : Plan). Adds plan [] n) same (none_added plan (record plan { edid = Some bytes }) refl refl)

    by : (b : Bool) → (if b then Err (at_word 0 causes.Word) else edid_read plan (bytes_of hex)) ≡ Ok next → Adds plan [] next
    by true k = cc
    by false k = by_bytes (bytes_of hex) k

-- ---- the form of a line

abbrev device_places : List Place
device_places = (slots.Word, codes "device") ∷ (slots.Text, codes "NAME") ∷ (slots.Kind, codes "KIND") ∷ (slots.Ports, codes "PORTS") ∷ []

abbrev plug_places : List Place
plug_places = (slots.Word, codes "plug") ∷ (slots.Text, codes "CHILD") ∷ (slots.Text, codes "PARENT") ∷ (slots.Port, codes "PORT") ∷ []

abbrev edid_places : List Place
edid_places = (slots.Word, codes "edid") ∷ (slots.Text, codes "HEX") ∷ []

rows_are : topology_rows ≡ (Device, device_places) ∷ (Plug, plug_places) ∷ (Edid, edid_places) ∷ []
rows_are = refl

first_is : (a b : Bool) → (a && b) ≡ true → a ≡ true
first_is true b h = refl
first_is false b h = h

never : {T : Type 0} (b : Bool) → (b && false) ≡ true → T
never true h = absurd (true≢false (sym h))
never false h = absurd (true≢false (sym h))

-- a line that begins with another word declares none
other_verb : (verb v : List ℕ) (words : List (List ℕ)) → bytes_eq verb v ≡ true → bytes_eq verb (codes "device") ≡ false → declared_in (v ∷ words) ≡ None
other_verb verb v [] h k = refl
other_verb verb v (n ∷ words) h k =
    let same : verb ≡ v = (bytes_eq-Decides verb v).0 h in
    ap (λ (b : Bool). if b then Some n else None) (subst (λ (w : List ℕ). bytes_eq w (codes "device") ≡ false) same k)

none_more : (words : List (List ℕ)) (plan next : Plan) → declared_in words ≡ None → Adds plan [] next → Adds plan (named_or (declared_in words) []) next
none_more words plan next e a = subst (λ (o : Option (List ℕ)). Adds plan (named_or o []) next) (sym e) a

module _ (plan next : Plan) where
  through : (a b c : Option (AtWord LineCause)) (read : Said TopologyVerb) → checked_in plan (unless a (unless b (unless c read))) ≡ Ok next → checked_in plan read ≡ Ok next
  through None None None read h = h
  through None None (Some f) read h = cc
  through None (Some f) c read h = cc
  through (Some f) b c read h = cc

  read_so : (verb : TopologyVerb) (places : List Place) (words : List (List ℕ)) → checked_in plan (read_by verb places words) ≡ Ok next → checked_in plan (Ok (verb, meanings_of places words)) ≡ Ok next
  read_so verb places words h = through (fault_in 0 0 places words) (fault_in 1 0 places words) (fault_in 2 0 places words) (Ok (verb, meanings_of places words)) h

  device_row : (words : List (List ℕ)) → is_whole device_places words ≡ true → checked_in plan (read_by Device device_places words) ≡ Ok next → Adds plan (named_or (declared_in words) []) next
  unfolding is_whole meanings_of
  device_row [] h k = absurd (true≢false (sym h))
  device_row (v ∷ []) h k = never (bytes_eq (codes "device") v) h
  device_row (v ∷ n ∷ []) h k = never (bytes_eq (codes "device") v) h
  device_row (v ∷ n ∷ kind ∷ []) h k = never (bytes_eq (codes "device") v) h
  device_row (v ∷ n ∷ kind ∷ ports ∷ []) h k =
      let values = meanings_of device_places (v ∷ n ∷ kind ∷ ports ∷ []) in
      let same : codes "device" ≡ v = (bytes_eq-Decides (codes "device") v).0 (first_is (bytes_eq (codes "device") v) true h) in
      let verb : bytes_eq v (codes "device") ≡ true = (bytes_eq-Decides v (codes "device")).1 (sym same) in
      subst (λ (b : Bool). Adds plan (named_or (if b then Some n else None) []) next) (sym verb)
      (device_adds plan n (kind_at values 2) (ports_at values 3) next (read_so Device device_places (v ∷ n ∷ kind ∷ ports ∷ []) k))
  device_row (v ∷ n ∷ kind ∷ ports ∷ x ∷ words) h k = never (bytes_eq (codes "device") v) h

  plug_row : (words : List (List ℕ)) → is_whole plug_places words ≡ true → checked_in plan (read_by Plug plug_places words) ≡ Ok next → Adds plan (named_or (declared_in words) []) next
  unfolding is_whole
  plug_row [] h k = absurd (true≢false (sym h))
  plug_row (v ∷ words) h k =
      let values = meanings_of plug_places (v ∷ words) in
      let verb = first_is (bytes_eq (codes "plug") v) _ h in
      none_more (v ∷ words) plan next (other_verb (codes "plug") v words verb refl)
      (plug_adds plan (device_named plan.tree (text_at values 1)) (device_named plan.tree (text_at values 2)) (port_at values 3) next (read_so Plug plug_places (v ∷ words) k))

  edid_row : (words : List (List ℕ)) → is_whole edid_places words ≡ true → checked_in plan (read_by Edid edid_places words) ≡ Ok next → Adds plan (named_or (declared_in words) []) next
  unfolding is_whole
  edid_row [] h k = absurd (true≢false (sym h))
  edid_row (v ∷ words) h k =
      let values = meanings_of edid_places (v ∷ words) in
      let verb = first_is (bytes_eq (codes "edid") v) _ h in
      none_more (v ∷ words) plan next (other_verb (codes "edid") v words verb refl) (edid_adds plan (text_at values 1) next (read_so Edid edid_places (v ∷ words) k))

  form_adds : (words : List (List ℕ)) → checked_in plan (line_of topology_rows words) ≡ Ok next → Adds plan (named_or (declared_in words) []) next
  unfolding row_of
  form_adds words h = by _ (is_whole device_places words) (is_whole plug_places words) (is_whole edid_places words) refl refl refl (subst (λ (rows : List (TopologyVerb × List Place)). checked_in plan (line_of rows words) ≡ Ok next) rows_are h)
    where
      by : (most : ℕ) (d p e : Bool) → is_whole device_places words ≡ d → is_whole plug_places words ≡ p → is_whole edid_places words ≡ e
          → checked_in plan (read_of most (if d then Some (Device, device_places) else if p then Some (Plug, plug_places) else if e then Some (Edid, edid_places) else None) words) ≡ Ok next
          → Adds plan (named_or (declared_in words) []) next
      by most true p e hd hp he k = device_row words hd k
      by most false true e hd hp he k = plug_row words hp k
      by most false false true hd hp he k = edid_row words he k
      by most false false false hd hp he k = cc

-- ---- lines

-- a comment declares none
no_comment : (ws : List (List ℕ)) → declared_in (onto_first 35 ws) ≡ None
no_comment [] = refl
no_comment (w ∷ []) = refl
no_comment (w ∷ n ∷ ws) = refl

skipped_none : (line : List ℕ) → is_skipped line ≡ true → declared_in (words_of line) ≡ None
skipped_none [] h = refl
skipped_none (x ∷ xs) h =
    let some : (length (x ∷ xs) == 0) ≡ false = grind (arith, nat_tests) in
    let here : (x == 35) ≡ true = ap (λ (b : Bool). b || (x == 35)) (sym some) ∙ h in
    let same : x ≡ 35 = grind (arith, nat_tests, here) in
    subst (λ (c : ℕ). declared_in (words_of (c ∷ xs)) ≡ None) (sym same) (no_comment (slice_split (λ b. b == 32) xs))

line_adds : (plan : Plan) (line : List ℕ) (next : Plan) → line_read plan line ≡ Ok next → Adds plan (named_or (declared_in (words_of line)) []) next
line_adds plan line next h = by (is_skipped line) refl h
  where
    by : (b : Bool) → is_skipped line ≡ b → (if b then Ok plan else checked_in plan (line_of topology_rows (words_of line))) ≡ Ok next → Adds plan (named_or (declared_in (words_of line)) []) next
    by true e k =
        let same : plan ≡ next = cc in
        none_more (words_of line) plan next (skipped_none line e) (subst (λ (n : Plan). Adds plan [] n) same (none_added plan plan refl refl))
    by false e k = form_adds plan next (words_of line) k

one_more : (o : Option (List ℕ)) (names : List (List ℕ)) → named_or o [] ++ names ≡ named_or o names
one_more None names = refl
one_more (Some name) names = refl

lines_add : (lines : List (List ℕ)) (number : ℕ) (plan end : Plan) → lines_read lines number plan ≡ Ok end → Adds plan (declared_names lines) end
lines_add [] number plan end h = by (has_root plan.tree) h
  where
    none : Result Plan (At TopologyCause)
    none = Err (at_line number (at_word 0 causes.NoRoot))

    by : (b : Bool) → (if b then Ok plan else none) ≡ Ok end → Adds plan [] end
    by true k = let same : plan ≡ end = cc in subst (λ (n : Plan). Adds plan [] n) same (none_added plan plan refl refl)
    by false k = cc
lines_add (line ∷ lines) number plan end h =
    by (line_read plan line) refl h (λ next k. lines_add lines (number + 1) next end k)
  where
    by : (r : Result Plan (AtWord TopologyCause)) → line_read plan line ≡ r → after_line number r (λ next. lines_read lines (number + 1) next) ≡ Ok end
        → ((next : Plan) → lines_read lines (number + 1) next ≡ Ok end → Adds next (declared_names lines) end) → Adds plan (named_or (declared_in (words_of line)) (declared_names lines)) end
    by (Ok next) e k later =
        let one = line_adds plan line next e in
        let more = later next k in (
          more.0 ∙ ap (λ (names : List (List ℕ)). names ++ declared_names lines) one.0 ∙ append_assoc (names_in plan.tree) (named_or (declared_in (words_of line)) []) (declared_names lines)
              ∙ ap (λ (names : List (List ℕ)). names_in plan.tree ++ names) (one_more (declared_in (words_of line)) (declared_names lines)),
          λ few. more.1 (one.1 few),
        )
    by (Err fault) e k later = cc

-- ---- at most 15

all_taken : (n : ℕ) (names : List (List ℕ)) → length names ≤ n → take n names ≡ names
all_taken zero [] l = refl
all_taken zero (name ∷ names) l = absurd (omega (arith, l))
all_taken (suc n) [] l = refl
all_taken (suc n) (name ∷ names) l = ap (λ (ns : List (List ℕ)). name ∷ ns) (all_taken n names (omega (arith, l)))

names_many : (tree : List Node) → length (names_in tree) ≡ length tree
names_many [] = refl
names_many (node ∷ tree) = let more = names_many tree in omega (arith, more)

pub names_are_declared : NamesAreDeclared
names_are_declared topology plan h =
    let all = lines_add (lines_of topology) 1 (record { tree = []; edid = None }) plan h in
    let few : length plan.tree ≤ 15 = all.1 (omega arith) in
    let many : length (declared_names (lines_of topology)) ≡ length plan.tree = sym (ap length all.0) ∙ names_many plan.tree in
    all.0 ∙ sym (all_taken 15 (declared_names (lines_of topology)) (omega (arith, few, many)))
