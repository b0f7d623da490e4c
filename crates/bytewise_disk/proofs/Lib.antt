mod OneMore
