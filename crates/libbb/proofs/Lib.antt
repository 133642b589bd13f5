mod LoadedTexts
