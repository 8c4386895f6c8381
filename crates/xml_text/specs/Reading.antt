-- The XML of Tiled's maps. What reads a part of a text from its front answers what the part says, and the text behind it.
use Rattle.std.specs.Prelude.{ℕ, zero, suc, ◌+◌, ◌==◌, Bool, true, false, not, ◌||◌, List, [], ◌∷◌, ◌++◌, length, take, codes}
use Rattle.std.specs.Prelude.{Option, Some, None, Result, Ok, Err, if◌then◌else◌, ok_or, unwrap_or, is_some}
use Rattle.std.specs.Result.{result_ok}
use Rattle.std.specs.List.{list_all, list_any}
use Rattle.std.specs.Str.{bytes_eq, is_utf8, chars}
use Rattle.xml_text.specs.declared.fault.Flaw.{Flaw}
use Rattle.xml_text.specs.declared.fault.Flaw.TheVariants.{NotUtf8, ControlCharacter, BadDeclaration, OtherEncoding, BadDoctype, BadComment}
use Rattle.xml_text.specs.declared.fault.Flaw.TheVariants.{BadInstruction, BadTag, BadAttribute, AttributeTwice, TooManyAttributes, BadCdata}
use Rattle.xml_text.specs.declared.fault.Flaw.TheVariants.{CdataEnd, WrongEnd, NoEnd, TooDeep, NoRoot, BehindRoot}
use Rattle.xml_text.specs.Answers.{◌>>=◌, made_of, Turn, More, Done, turns}
use Rattle.xml_text.specs.Words.{is_blank, begins_name, first_is, unblanked, after, cut, up_to, name, is_word}
use Rattle.xml_text.specs.Said.{is_character, plain, said}
use Rattle.xml_text.specs.Xml.{Xml, element, text, children_of}

abbrev pub Attributes : Type 0
Attributes = List (List ℕ × List ℕ)

-- a text behind a word that must stand at its front, but for blanks
abbrev pub behind : Flaw → List ℕ → List ℕ → Result (List ℕ) Flaw
behind flaw word bytes = ok_or (after word (unblanked bytes)) flaw

-- a text behind blanks of which there must be one
abbrev pub gap : Flaw → List ℕ → Result (List ℕ) Flaw
gap flaw bytes = if first_is is_blank bytes then Ok (unblanked bytes) else Err flaw

-- ---- comments and processing instructions

-- a comment behind its `<!--`: its first `--` ends it
unfoldable pub comment : List ℕ → Result (List ℕ) Flaw
comment bytes = ok_or (cut (codes "--") bytes) BadComment >>= λ parts. ok_or (after (codes ">") parts.1) BadComment

-- a processing instruction behind its `<?`: a name that does not begin with `xml`, and anything behind a blank
unfoldable pub instruction : List ℕ → Result (List ℕ) Flaw
instruction bytes =
    name bytes >>= λ target.
    if is_word (take 3 target.0) (codes "xml") then Err BadInstruction
    else if first_is is_blank target.1 || is_some (after (codes "?>") target.1)
    then (ok_or (cut (codes "?>") target.1) BadInstruction >>= λ parts. Ok parts.1)
    else Err BadInstruction

-- blanks, comments and processing instructions
unfoldable pub misc_turn : List ℕ → Result (Turn (List ℕ)) Flaw
misc_turn bytes =
    let inner = unblanked bytes in
    made_of (after (codes "<!--") inner) (λ rest. comment rest >>= λ rest. Ok (More rest))
    (made_of (after (codes "<?") inner) (λ rest. instruction rest >>= λ rest. Ok (More rest))
    (Ok (Done inner)))

unfoldable pub misc : List ℕ → Result (List ℕ) Flaw
misc bytes = turns (length bytes + 1) misc_turn bytes

-- ---- the head of a text

-- what stands between two quotes of a kind
unfoldable pub quoted : Flaw → List ℕ → Result (List ℕ × List ℕ) Flaw
quoted flaw bytes =
    made_of (after (34 ∷ []) bytes) (λ rest. ok_or (cut (34 ∷ []) rest) flaw)
    (made_of (after (39 ∷ []) bytes) (λ rest. ok_or (cut (39 ∷ []) rest) flaw)
    (Err flaw))

-- `=` and a text in quotes
unfoldable pub assigned : Flaw → List ℕ → Result (List ℕ × List ℕ) Flaw
assigned flaw bytes = behind flaw (codes "=") bytes >>= λ rest. quoted flaw (unblanked rest)

-- a word of the declaration with its value, if it stands there
unfoldable pub setting : List ℕ → List ℕ → Result (Option (List ℕ) × List ℕ) Flaw
setting word bytes =
    made_of (after word (unblanked bytes))
    (λ rest. if first_is is_blank bytes then (assigned BadDeclaration rest >>= λ value. Ok (Some value.0, value.1)) else Err BadDeclaration)
    (Ok (None, bytes))

abbrev pub is_version : Option (List ℕ) → Bool
is_version None = false
is_version (Some value) = bytes_eq value (codes "1.0")

abbrev pub is_encoding : Option (List ℕ) → Bool
is_encoding None = true
is_encoding (Some value) = is_word value (codes "utf-8")

abbrev pub is_standalone : Option (List ℕ) → Bool
is_standalone None = true
is_standalone (Some value) = bytes_eq value (codes "yes") || bytes_eq value (codes "no")

-- the declaration behind its `<?xml`
unfoldable pub settings : List ℕ → Result (List ℕ) Flaw
settings bytes =
    setting (codes "version") bytes >>= λ version.
    if not (is_version version.0) then Err BadDeclaration
    else setting (codes "encoding") version.1 >>= λ encoding.
    if not (is_encoding encoding.0) then Err OtherEncoding
    else setting (codes "standalone") encoding.1 >>= λ standalone.
    if not (is_standalone standalone.0) then Err BadDeclaration
    else behind BadDeclaration (codes "?>") standalone.1

unfoldable pub declaration : List ℕ → Result (List ℕ) Flaw
declaration bytes = made_of (after (codes "<?xml") bytes) settings (Ok bytes)

-- the name of a file behind `SYSTEM`, if it stands there
unfoldable pub system : List ℕ → Result (List ℕ) Flaw
system bytes =
    made_of (after (codes "SYSTEM") (unblanked bytes))
    (λ rest. gap BadDoctype rest >>= λ inner. quoted BadDoctype inner >>= λ file. Ok file.1)
    (Ok bytes)

-- a DOCTYPE behind its `<!DOCTYPE`: a name, and a file
unfoldable pub doctype : List ℕ → Result (List ℕ) Flaw
doctype bytes =
    gap BadDoctype bytes >>= λ inner.
    name inner >>= λ root.
    system root.1 >>= λ rest.
    behind BadDoctype (codes ">") rest

-- everything before the root
unfoldable pub prolog : List ℕ → Result (List ℕ) Flaw
prolog bytes =
    declaration (unwrap_or (after (239 ∷ 187 ∷ 191 ∷ []) bytes) bytes) >>= λ rest.
    misc rest >>= λ inner.
    made_of (after (codes "<!DOCTYPE") inner) (λ rest. doctype rest >>= misc) (Ok inner)

-- ---- elements

-- an attribute: a name, `=`, and a value between quotes in which no `<` stands
unfoldable pub attribute : List ℕ → Result ((List ℕ × List ℕ) × List ℕ) Flaw
attribute bytes =
    name bytes >>= λ key.
    assigned BadAttribute key.1 >>= λ value.
    if is_some (cut (codes "<") value.0) then Err BadAttribute
    else said true value.0 >>= λ words. Ok ((key.0, words), value.1)

abbrev pub has_name : List ℕ → Attributes → Bool
has_name key attributes = list_any (λ (a : List ℕ × List ℕ). bytes_eq a.0 key) attributes

-- one attribute more, behind a blank; at most 256, each name once
unfoldable pub attribute_turn : Attributes × List ℕ → Result (Turn (Attributes × List ℕ)) Flaw
attribute_turn so_far =
    let inner = unblanked so_far.1 in
    if not (first_is begins_name inner) then Ok (Done (so_far.0, inner))
    else if not (first_is is_blank so_far.1) then Err BadTag
    else if length so_far.0 == 256 then Err TooManyAttributes
    else attribute inner >>= λ found.
    if has_name found.0.0 so_far.0 then Err AttributeTwice else Ok (More (so_far.0 ++ found.0 ∷ [], found.1))

unfoldable pub attributes : List ℕ → Result (Attributes × List ℕ) Flaw
attributes bytes = turns (length bytes + 1) attribute_turn ([], bytes)

-- an end tag of this name behind its `</`
unfoldable pub end_tag : List ℕ → List ℕ → Result (List ℕ) Flaw
end_tag key bytes = name bytes >>= λ found. if bytes_eq found.0 key then behind BadTag (codes ">") found.1 else Err WrongEnd

-- a CDATA section behind its `<![CDATA[`
unfoldable pub cdata : List ℕ → Result (Xml × List ℕ) Flaw
cdata bytes = ok_or (cut (codes "]]>") bytes) BadCdata >>= λ parts. Ok (text (plain false parts.0), parts.1)

-- characters up to a tag
unfoldable pub characters : List ℕ → Result (Xml × List ℕ) Flaw
characters bytes =
    let parts = up_to 60 bytes in
    if is_some (cut (codes "]]>") parts.0) then Err CdataEnd else said false parts.0 >>= λ words. Ok (text words, parts.1)

abbrev pub Reader : Type 0
Reader = List ℕ → Result (Xml × List ℕ) Flaw

abbrev pub Nodes : Type 0
Nodes = List Xml × List ℕ

-- one child more
abbrev pub with_child : List Xml → Xml × List ℕ → Result (Turn Nodes) Flaw
with_child xs found = Ok (More (xs ++ found.0 ∷ [], found.1))

-- one child more, or what is none; up to an end tag
unfoldable pub node_turn : Reader → Nodes → Result (Turn Nodes) Flaw
node_turn child so_far =
    let bytes = so_far.1 in
    if length bytes == 0 then Err NoEnd
    else made_of (after (codes "</") bytes) (λ rest. Ok (Done (so_far.0, rest)))
    (made_of (after (codes "<!--") bytes) (λ rest. comment rest >>= λ rest. Ok (More (so_far.0, rest)))
    (made_of (after (codes "<?") bytes) (λ rest. instruction rest >>= λ rest. Ok (More (so_far.0, rest)))
    (made_of (after (codes "<![CDATA[") bytes) (λ rest. cdata rest >>= with_child so_far.0)
    (made_of (after (codes "<") bytes) (λ rest. child rest >>= with_child so_far.0)
    (characters bytes >>= with_child so_far.0)))))

unfoldable pub nodes : Reader → List ℕ → Result Nodes Flaw
nodes child bytes = turns (length bytes + 1) (node_turn child) ([], bytes)

-- what stands between the tags of an element, and its end tag
unfoldable pub content : Reader → List ℕ → Attributes → List ℕ → Result (Xml × List ℕ) Flaw
content child key found bytes =
    nodes child bytes >>= λ inner.
    end_tag key inner.1 >>= λ rest. Ok (element key found (children_of inner.0), rest)

-- an element behind its `<`
unfoldable pub element_by : Reader → List ℕ → Result (Xml × List ℕ) Flaw
element_by child bytes =
    name bytes >>= λ key.
    attributes key.1 >>= λ found.
    made_of (after (codes "/>") found.1) (λ rest. Ok (element key.0 found.0 (children_of []), rest))
    (ok_or (after (codes ">") found.1) BadTag >>= content child key.0 found.0)

-- an element of so many levels
unfoldable pub element_of : ℕ → List ℕ → Result (Xml × List ℕ) Flaw
element_of zero bytes = Err TooDeep
element_of (suc levels) bytes = element_by (element_of levels) bytes

-- ---- a text

-- the root, with what may stand before it and behind it
unfoldable pub document : List ℕ → Result Xml Flaw
document bytes =
    prolog bytes >>= λ front.
    ok_or (after (codes "<") front) NoRoot >>= λ inner.
    element_of 64 inner >>= λ root.
    misc root.1 >>= λ rest.
    if length rest == 0 then Ok root.0 else Err BehindRoot

-- what a text says, or the first thing that is wrong with it
unfoldable pub reading : List ℕ → Result Xml Flaw
reading bytes =
    if not (is_utf8 bytes) then Err NotUtf8
    else if not (list_all is_character (chars bytes)) then Err ControlCharacter
    else document bytes

-- what a text says, if it is of this XML
abbrev pub xml_of : List ℕ → Option Xml
xml_of bytes = result_ok (reading bytes)
