-- The bytes of an EDID as other programs read them (own): as an array of C, and as the xml that edid-decode writes with `-o xml`.
use Rattle.std.specs.Prelude.{ℕ, zero, suc, ◌+◌, ◌/◌, ◌%◌, nat_lt, if◌then◌else◌, List, [], ◌∷◌, ◌++◌, length, take, drop, codes}
use Rattle.std.specs.Fmt.{decimal}
use Rattle.std.specs.List.{flat_map}
use Rattle.text_core.specs.Piece.{hex_text}

-- ---- an array of C: sixteen bytes a row, each with a comma after it

abbrev pub c_byte : ℕ → List ℕ
c_byte b = codes " 0x" ++ (hex_text b ++ codes ",")

abbrev pub c_row : List ℕ → List ℕ
c_row bytes = codes "   " ++ (flat_map c_byte bytes ++ codes "\n")

-- so many rows
abbrev pub c_rows : ℕ → List ℕ → List ℕ
c_rows zero bytes = []
c_rows (suc count) bytes = c_row (take 16 bytes) ++ c_rows count (drop 16 bytes)

abbrev pub c_text : List ℕ → List ℕ
c_text bytes = codes "static const unsigned char edid[" ++ (decimal (length bytes) ++ (codes "] = {\n" ++ (c_rows (length bytes / 16) bytes ++ codes "};\n")))

-- ---- xml: a block of 128 bytes a line, in digits of which the letters are capitals

abbrev pub capital : ℕ → ℕ
capital n = if nat_lt n 10 then 48 + n else 55 + n

abbrev pub xml_byte : ℕ → List ℕ
xml_byte b = capital (b / 16) ∷ capital (b % 16) ∷ []

-- the tag of a block, after what begins it
abbrev pub xml_tag : List ℕ → ℕ → List ℕ
xml_tag begin number = begin ++ (decimal number ++ codes ">")

abbrev pub xml_block : ℕ → List ℕ → List ℕ
xml_block number bytes = xml_tag (codes "        <BLOCK") number ++ (flat_map xml_byte bytes ++ (xml_tag (codes "</BLOCK") number ++ codes "\n"))

-- so many blocks, of which the first has this number
abbrev pub xml_blocks : ℕ → ℕ → List ℕ → List ℕ
xml_blocks zero number bytes = []
xml_blocks (suc count) number bytes = xml_block number (take 128 bytes) ++ xml_blocks count (number + 1) (drop 128 bytes)

abbrev pub xml_text : List ℕ → List ℕ
xml_text bytes =
    codes "<?xml version=\"1.0\" encoding=\"UTF-8\" standalone=\"no\"?>\n<DATAOBJ>\n    <HEADER TYPE=\"DID\" VERSION=\"1.0\"/>\n    <DATA>\n"
    ++ (xml_blocks (length bytes / 128) 0 bytes ++ codes "    </DATA>\n</DATAOBJ>\n")
